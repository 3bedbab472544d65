pub mod Asking
pub mod Written
pub mod Adding
pub mod Standing
