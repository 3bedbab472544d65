pub mod Trails
pub mod AnswerKinds
