pub mod Acting
mod Behind
mod Moving
mod Stepping
mod Storing
mod Together
