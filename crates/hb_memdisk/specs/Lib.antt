pub mod CallLaws
pub mod Calls
pub mod Listed
pub mod MemDisk
pub mod MemSink
pub mod MemSource
pub mod Pieces
