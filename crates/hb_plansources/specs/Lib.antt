pub mod Sourcing
