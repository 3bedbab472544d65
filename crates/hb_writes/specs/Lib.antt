pub mod Underway
pub mod Writings
