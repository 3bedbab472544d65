pub mod Members
pub mod Cover
pub mod Agreeing
pub mod Writers
pub mod Growing
pub mod Saying
pub mod Lookups
pub mod Settling
