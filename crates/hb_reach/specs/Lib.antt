pub mod Goes
pub mod Names
pub mod Told
