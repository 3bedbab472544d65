pub mod Numbers
pub mod Memory
pub mod Standing
pub mod Starts
pub mod Law
