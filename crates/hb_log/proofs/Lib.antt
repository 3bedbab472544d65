pub mod Appending
mod Forcing
mod Framing
mod Fresh
pub mod Readings
pub mod Standing
