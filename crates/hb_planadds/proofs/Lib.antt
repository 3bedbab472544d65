pub mod Wider
pub mod AddedRows
pub mod ChangedRows
pub mod Widened
pub mod WidenedSystem
pub mod Members
pub mod AddPlan
