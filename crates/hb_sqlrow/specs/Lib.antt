pub mod Refused
pub mod Narrow
