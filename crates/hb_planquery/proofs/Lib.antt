pub mod Early
pub mod Bare
pub mod PlanParts
pub mod Steps
