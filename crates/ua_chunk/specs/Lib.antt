-- The definitions, in the order in which they are best read: how frames carry chunks, their
-- numbers, the messages that they are of, which are rejected; splitting; merged messages; and last
-- the state of an assembler, and how it keeps what is unfinished.
pub mod Flag
pub mod Layout
pub mod Opening
pub mod Sequence
pub mod Abort
pub mod Gathered
pub mod Item
pub mod Delivered
pub mod Open
pub mod Refusal
pub mod Cutting
pub mod InPlace
pub mod Merge
pub mod HeldParts
pub mod Pending
pub mod Kept
pub mod Assembling
pub mod View
