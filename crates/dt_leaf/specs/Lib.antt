pub mod AtVisit
pub mod Clearing
pub mod NodeWords
