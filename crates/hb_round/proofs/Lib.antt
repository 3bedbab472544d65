pub mod Dropping
pub mod Onwards
pub mod Steps
pub mod Along
