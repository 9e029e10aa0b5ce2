pub mod Namespaces
pub mod Standard
pub mod CurrentTime
pub mod Changed
