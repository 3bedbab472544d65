pub mod Course
pub mod Bears
pub mod RowLocks
pub mod DefineLocks
pub mod AllLocks
