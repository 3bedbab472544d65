pub mod Splits
pub mod Commits
pub mod Ends
pub mod Owning
pub mod OwnPlans
pub mod Owned
pub mod Goings
pub mod Dividing
pub mod OwnItems
pub mod GivingUp
pub mod Kept
pub mod Naming
pub mod Showing
mod Idle
