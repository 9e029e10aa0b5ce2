mod ElementLines
mod Elements
mod Behind
mod Tokens
mod Found
pub mod Bodies
pub mod Openings
