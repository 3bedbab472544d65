pub mod Deeds
pub mod Fronts
pub mod Places
pub mod Lines
pub mod Ordering
pub mod Beginning
pub mod Explaining
