pub mod Defines
