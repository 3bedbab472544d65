pub mod Systems
pub mod Currents
pub mod Stretches
pub mod Placing
pub mod Lives
pub mod Joining
pub mod Unfinished
