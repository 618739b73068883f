pub mod Halves
pub mod Counts
pub mod Puts
pub mod Spots
pub mod Zeros
