pub mod Digits
pub mod Forms
pub mod Known
pub mod LoopFaults
pub mod Reasons
pub mod Refused
