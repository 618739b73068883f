pub mod FileLemmas
pub mod Fronts
pub mod Listed
