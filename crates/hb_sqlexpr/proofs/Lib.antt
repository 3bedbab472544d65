pub mod ExactLevels
pub mod ExactTruths
pub mod Levels
pub mod Limits
pub mod Typed
pub mod TypedTruths
