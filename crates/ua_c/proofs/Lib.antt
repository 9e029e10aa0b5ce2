mod Asked
mod Chosen
mod Connected
mod Gotten
pub mod Handles
mod Indexed
mod Items
mod Made
mod Named
mod Parts
mod Replied
mod Seen
mod Served
mod Spelling
pub mod Values
