pub mod Identity
pub mod Policy
pub mod Request
pub mod Response
pub mod SessionRequests
