mod Growing
mod Ascents
mod Final
mod Orderly
mod Answered
mod Asking
mod Keeping
pub mod CoordinatorExample
