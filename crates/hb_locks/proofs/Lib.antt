pub mod Order
pub mod Lists
pub mod Sound
pub mod Ascending
