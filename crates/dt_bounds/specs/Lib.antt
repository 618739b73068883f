pub mod Found
pub mod Points
pub mod NeededPaths
pub mod TaskUnits
