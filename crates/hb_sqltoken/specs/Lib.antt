pub mod Kinds
pub mod Words
pub mod Tokens
pub mod Spellings
pub mod Pieces
