pub mod Standing
pub mod Fronts
pub mod Reading
pub mod Items
pub mod Shown
