pub mod Ballots
pub mod Driving
pub mod Resolving
