mod Chains
pub mod PutTexts
mod Clocks
mod Acting
mod LinesSaid
mod Running
mod Halting
mod CountWords
