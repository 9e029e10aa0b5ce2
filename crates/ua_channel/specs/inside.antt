-- What the parts of both ends make of operations, frames and fragments: definitions that only
-- contracts within this crate cite.
pub mod EndFaults
pub mod Parts
pub mod Ends
pub mod ServerParts
pub mod ServerFrames
pub mod ServerSteps
pub mod ClientAsking
pub mod ClientParts
