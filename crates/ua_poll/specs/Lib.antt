pub mod News
pub mod Serving
pub mod Rounds
