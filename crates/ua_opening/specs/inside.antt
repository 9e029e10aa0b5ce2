-- What is at the end of headers: definitions that only contracts within this crate cite.
pub mod HeaderEnds
