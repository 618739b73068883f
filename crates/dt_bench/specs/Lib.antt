pub mod DotSchedule
