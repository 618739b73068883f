pub mod Events
pub mod Facts
pub mod Frames
pub mod Joined
pub mod Laws
pub mod Listings
pub mod Orders
pub mod Worked
