mod Maps
mod Knowing
mod Reflecting
pub mod Logging
mod Turning
mod Recording
mod Starting
pub mod Lawful
mod Leaving
mod Counting
mod Reading
