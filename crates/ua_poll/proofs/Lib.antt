mod Telling
pub mod Flattened
