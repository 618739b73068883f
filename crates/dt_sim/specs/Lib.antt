pub mod Changes
pub mod Memories
pub mod Planned
pub mod Slots
pub mod TaskItems
pub mod Tracking
pub mod UnitsDone
