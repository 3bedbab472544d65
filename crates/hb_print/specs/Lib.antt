pub mod Records
pub mod Places
pub mod Replies
pub mod Texts
