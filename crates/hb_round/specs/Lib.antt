pub mod Onward
pub mod Sweeps
pub mod Rounds
pub mod Laws
