pub mod Seen
pub mod Exact
