pub mod RequestLawful
pub mod ResponseLawful
pub mod ByKind
pub mod RequestRead
pub mod ResponseRead
pub mod NoneEmpty
mod RequestSkipped
mod ResponseSkipped
mod RequestThinned
pub mod Words
pub mod Asked
