pub mod Reading
pub mod Short
pub mod Twins
pub mod Accepting
pub mod Spreading
pub mod RowsPut
pub mod Moved
pub mod Refusing
