pub mod ChangeLaws
pub mod JobTracks
pub mod MemoryUnits
pub mod PlanParts
pub mod Rooms
pub mod TaskCells
pub mod TaskDone
pub mod TaskUnits
