pub mod DefineRows
pub mod Drafts
