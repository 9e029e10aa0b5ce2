mod FieldFlags
pub mod LeavesRead
mod Leaves
pub mod ScalarsRead
pub mod ArraysRead
pub mod VariantsRead
pub mod Encoded
pub mod Lengths
pub mod Viewed
pub mod VariantsLawful
mod Rows
mod Fits
mod Judged
pub mod Heads
mod Loops
mod Boxes
mod BlocksRead
mod Valued
mod Written
mod OntoRead
mod PackedRows
mod RowsSkipped
mod ValuesRead
