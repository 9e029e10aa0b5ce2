pub mod HexParts
mod Places
pub mod Stops
