pub mod Lines
pub mod Moment
pub mod Records
