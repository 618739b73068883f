pub mod Causes
pub mod Cutting
pub mod Place
