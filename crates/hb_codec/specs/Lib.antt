pub mod Reading
pub mod Spellings
pub mod Readers
pub mod RowReaders
pub mod PlaceReaders
pub mod ChangeReaders
pub mod LockReaders
pub mod RecordReaders
