pub mod RunThrough
