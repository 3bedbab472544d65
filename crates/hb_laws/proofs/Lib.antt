pub mod ModeLaws
pub mod GroupLaws
pub mod Places
pub mod RowLaws
