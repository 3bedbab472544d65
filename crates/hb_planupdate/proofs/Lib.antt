pub mod Assigns
pub mod UpdateRefusals
pub mod UpdatePlan
