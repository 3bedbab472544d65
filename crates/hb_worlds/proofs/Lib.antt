pub mod AreaMade
pub mod AreaRun
mod Permits
mod RowCalls
pub mod RowMade
mod Spelled
pub mod TableGiven
pub mod RowWorld
