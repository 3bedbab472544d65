mod Running
mod Holders
