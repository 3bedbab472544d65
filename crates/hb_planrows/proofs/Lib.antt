pub mod ByKey
pub mod Accepted
pub mod Numbers
pub mod Among
pub mod RowSizes
pub mod Ranked
mod Vectors
