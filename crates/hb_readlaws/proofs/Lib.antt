mod Reading
mod Under
mod Cleaning
mod Phases
mod Stepping
mod Ordered
pub mod ReadExample
pub mod FloorExample
mod LastWriters
