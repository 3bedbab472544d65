pub mod Disks
pub mod Giving
pub mod Making
pub mod Opening
pub mod Starting
pub mod Variants
