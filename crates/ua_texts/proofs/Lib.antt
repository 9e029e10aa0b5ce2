pub mod Codes
pub mod Shows
pub mod Named
mod Escapes
pub mod Rows
pub mod PlainAdds
mod PlainDiagnostics
mod PlainRows
pub mod PlainValues
