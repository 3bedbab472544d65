pub mod Assigning
pub mod Levels
pub mod NarrowRows
pub mod Steps
pub mod Totals
