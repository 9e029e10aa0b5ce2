-- Definitions that only contracts within this crate cite: which renewals are refused, and the
-- outcome of a conversation.
pub mod Counting
pub mod Conversed
