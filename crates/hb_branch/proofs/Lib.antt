pub mod Ranks
pub mod Changes
pub mod Views
pub mod Merges
