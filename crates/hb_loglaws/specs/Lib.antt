pub mod Locking
pub mod Saying
pub mod Settled
