pub mod Numbers
pub mod Hints
pub mod Located
pub mod TurnDecisions
pub mod Checks
