pub mod Sequences
pub mod Nodes
pub mod Asking
pub mod Bridges
