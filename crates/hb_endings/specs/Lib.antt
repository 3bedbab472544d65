pub mod Rows
pub mod Kept
pub mod Overflowing
pub mod Endings
