pub mod Comes
pub mod Steps
pub mod Counts
pub mod Plain
