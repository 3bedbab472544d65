pub mod ModeTable
pub mod Vectors
pub mod RowOrder
