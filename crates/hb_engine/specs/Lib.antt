pub mod Ends
pub mod Fits
pub mod Climbs
pub mod Steps
pub mod Covers
pub mod Turned
pub mod Restores
