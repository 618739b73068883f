pub mod Below
pub mod Finds
pub mod LawProofs
pub mod Made
pub mod Opens
pub mod Releases
pub mod RowReads
pub mod Takes
