pub mod Sitting
pub mod GivingUp
pub mod Owning
pub mod Txns
