pub mod Parts
pub mod Dimensions
pub mod Diagnostic
pub mod View
pub mod Formats
pub mod Codes
pub mod Sizes
