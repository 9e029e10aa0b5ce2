pub mod Readers
pub mod NumbersRead
pub mod CountedRead
pub mod Lawfulness
pub mod ScalarsLawful
pub mod CountedLawful
pub mod Leasts
pub mod FormatLaws
pub mod Appends
pub mod Behind
pub mod FrontsRead
mod PartsRead
pub mod ReadAnswers
pub mod Seen
mod ShortWritten
