pub mod Stretches
pub mod Lives
pub mod Systems
pub mod Joining
pub mod Unfinished
