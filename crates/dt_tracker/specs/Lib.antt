pub mod TrackerLaws
pub mod Tracks
pub mod Waiting
