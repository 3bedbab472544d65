pub mod PlanRows
pub mod Ranks
