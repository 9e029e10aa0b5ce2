pub mod Array
pub mod Field
pub mod Header
pub mod Laws
pub mod Message
pub mod Open
pub mod Plain
pub mod SecureChannel
pub mod WrittenBack
-- Definitions that only contracts within this crate cite.
pub mod inside
