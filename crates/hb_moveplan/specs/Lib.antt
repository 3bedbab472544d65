pub mod Parts
pub mod MovePlans
