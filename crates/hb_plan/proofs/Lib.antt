pub mod Parts
pub mod Named
mod PlainTest
