pub mod Dropping
pub mod Talks
pub mod Courses
pub mod Stages
pub mod Making
pub mod Going
pub mod Stepping
