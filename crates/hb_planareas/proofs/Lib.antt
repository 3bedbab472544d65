pub mod AreaRows
pub mod AreaStates
pub mod AreaPlan
