pub mod Carried
pub mod Seen
pub mod Talk
pub mod Standing
pub mod Turning
pub mod Acts
pub mod All
