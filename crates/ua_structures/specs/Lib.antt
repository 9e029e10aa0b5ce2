pub mod Attribute
pub mod Discovery
pub mod Plain
pub mod Results
pub mod Session
pub mod Thin
-- Definitions that only contracts within this crate cite.
pub mod inside
