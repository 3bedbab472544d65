pub mod Ends
pub mod Branches
pub mod Moving
pub mod Refusing
pub mod Plans
pub mod Begins
pub mod Following
