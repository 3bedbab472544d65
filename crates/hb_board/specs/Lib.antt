pub mod Shows
pub mod Searches
pub mod Waiting
pub mod Cycles
pub mod Asking
