pub mod Turns
pub mod Stepping
pub mod Home
pub mod Completing
