pub mod Lengths
pub mod Standing
pub mod Kept
pub mod Quiet
