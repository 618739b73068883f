pub mod Blocks
pub mod HomeLaws
pub mod Homes
pub mod MachineLaws
pub mod MachineLine
pub mod Machines
pub mod PlaceLine
pub mod Placements
