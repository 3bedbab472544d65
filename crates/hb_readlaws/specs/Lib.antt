pub mod Ordering
pub mod Stood
