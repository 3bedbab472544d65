pub mod Sitting
pub mod Steps
pub mod Runs
