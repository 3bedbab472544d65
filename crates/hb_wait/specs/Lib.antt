pub mod Waiting
pub mod Courses
