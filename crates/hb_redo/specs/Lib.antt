pub mod Damage
pub mod Restarts
pub mod Stages
