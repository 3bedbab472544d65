pub mod Lists
pub mod Beside
pub mod Parts
pub mod Does
pub mod Undone
pub mod Telling
pub mod Rolling
pub mod Faithfuls
