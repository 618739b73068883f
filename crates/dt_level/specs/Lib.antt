pub mod Levels
pub mod Segments
