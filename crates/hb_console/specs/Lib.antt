pub mod Leaving
pub mod Ends
pub mod Telling
