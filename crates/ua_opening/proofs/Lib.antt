pub mod PlainFits
pub mod ArrayRead
pub mod ArrayLawful
pub mod ItemsRead
mod ItemsSkipped
pub mod HeaderSound
mod HeaderRead
pub mod SecureChannelLawful
mod PlainLengths
pub mod FlatsBack
pub mod DiagnosticsBack
pub mod FormatsBack
pub mod Sound
pub mod MessagesLawful
pub mod BodyLaws
pub mod BodyRead
pub mod MessageRead
pub mod Lengths
mod NumberWritten
