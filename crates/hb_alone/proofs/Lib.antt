mod Calls
mod Counts
pub mod Running
pub mod Heard
