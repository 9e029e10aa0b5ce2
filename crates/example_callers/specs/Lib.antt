pub mod Talk
pub mod Application
