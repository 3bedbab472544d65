mod Pairs
mod Maps
mod Waiters
mod Shown
mod Reaching
mod Living
mod Searching
mod Keeping
mod Edges
mod Judging
pub mod Asking
mod Law
