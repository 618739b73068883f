pub mod Shared
pub mod Once
pub mod Serving
pub mod Reaching
