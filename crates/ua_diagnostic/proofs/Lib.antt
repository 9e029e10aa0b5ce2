pub mod PartsRead
pub mod Weights
pub mod PartsLawful
pub mod Masks
pub mod DimensionsRead
pub mod Viewed
pub mod DiagnosticsRead
pub mod DiagnosticsWritten
pub mod DiagnosticsLawful
pub mod Lengths
pub mod Extents
pub mod Empty
pub mod Skipped
mod Products
mod Written
