mod Bits
pub mod Walks
