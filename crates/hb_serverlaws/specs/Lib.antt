pub mod Trails
pub mod Locking
pub mod Logging
