pub mod SessionCalls
pub mod Using
pub mod Undone
pub mod Ending
pub mod Going
pub mod Calling
pub mod Lives
