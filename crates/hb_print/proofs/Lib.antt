pub mod Pieces
pub mod Chains
mod Samples
