pub mod Kept
pub mod Made
pub mod MapLaws
pub mod Places
pub mod RoomLemmas
pub mod Totals
