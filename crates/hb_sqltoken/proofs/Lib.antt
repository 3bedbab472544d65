pub mod Runs
pub mod Numbers
pub mod Texts
pub mod Firsts
pub mod WordLemmas
pub mod Munch
pub mod Spelt
pub mod Making
mod Samples
