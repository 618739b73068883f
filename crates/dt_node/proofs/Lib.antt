pub mod NodeSteps
pub mod Slots
