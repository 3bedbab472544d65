pub mod Nodes
pub mod Ends
pub mod Assigned
pub mod FitRows
pub mod Steps
pub mod Plans
pub mod Twins
