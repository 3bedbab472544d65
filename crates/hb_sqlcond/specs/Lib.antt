pub mod Grammar
pub mod Operands
pub mod ExprSteps
pub mod PredSteps
pub mod Runs
