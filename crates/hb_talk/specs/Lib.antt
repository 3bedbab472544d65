pub mod Talk
pub mod Plans
pub mod PlansDefine
pub mod Ends
pub mod Moves
pub mod Sessions
