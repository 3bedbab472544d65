pub mod Ascending
pub mod Finality
pub mod Order
pub mod Asking
