pub mod LevelKinds
pub mod Packing
pub mod Packed
