pub mod Stops
pub mod Words
pub mod Outside
pub mod Putting
pub mod Acts
pub mod Runs
pub mod Leaving
