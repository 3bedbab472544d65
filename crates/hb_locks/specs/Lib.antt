pub mod Locks
pub mod Index
pub mod Takes
