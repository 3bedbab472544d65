pub mod Growing
pub mod NamedAgain
pub mod Telling
pub mod Given
