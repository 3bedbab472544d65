pub mod ColumnSteps
pub mod TableSteps
pub mod Tells
pub mod ValuesBack
mod Vectors
