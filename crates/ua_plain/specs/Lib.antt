pub mod Word
pub mod Decimal
pub mod Moment
