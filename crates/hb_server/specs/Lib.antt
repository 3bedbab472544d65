pub mod Law
pub mod Explained
pub mod Rooms
pub mod Damages
