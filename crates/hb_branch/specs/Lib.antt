pub mod Overlays
pub mod Merging
