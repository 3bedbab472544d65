pub mod Staying
pub mod Leaving
pub mod Staging
pub mod Walking
