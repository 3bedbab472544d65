mod Ballots
pub mod Branches
pub mod NoLocks
