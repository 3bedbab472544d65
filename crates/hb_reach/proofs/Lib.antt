mod AnswerKinds
pub mod Going
mod Names
mod Reaching
