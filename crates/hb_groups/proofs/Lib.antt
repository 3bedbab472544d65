pub mod Folding
pub mod Counting
pub mod Quotas
pub mod Seeing
pub mod Reassigned
pub mod Shares
