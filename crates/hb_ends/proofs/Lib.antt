pub mod Belonging
pub mod Apart
pub mod Undone
pub mod Lines
pub mod Shown
