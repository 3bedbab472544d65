pub mod Rules
pub mod Gathers
pub mod Lying
pub mod Shows
pub mod Defines
pub mod AllSources
pub mod Inside
