pub mod Queries
pub mod QueryPlans
