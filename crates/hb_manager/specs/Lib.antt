pub mod Managing
