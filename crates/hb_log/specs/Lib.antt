pub mod Forced
pub mod Log
pub mod Standing
pub mod Steps
