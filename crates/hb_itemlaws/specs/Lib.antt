pub mod Dividing
pub mod GivingUp
pub mod Owning
pub mod Txns
