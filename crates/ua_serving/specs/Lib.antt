pub mod AtOnce
pub mod Live
pub mod Refused
pub mod Served
pub mod Standard
pub mod Stored
