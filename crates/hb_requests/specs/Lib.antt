pub mod Shown
pub mod Forced
