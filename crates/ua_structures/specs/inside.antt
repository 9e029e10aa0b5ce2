-- What is at the start of values: definitions that only contracts within this crate cite.
pub mod Ahead
pub mod Onto
