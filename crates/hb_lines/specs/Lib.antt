pub mod Lines
pub mod Saying
pub mod Next
pub mod Parts
pub mod Cuts
