pub mod Sources
pub mod Serving
