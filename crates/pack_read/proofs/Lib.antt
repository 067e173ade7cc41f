pub mod One
pub mod Outlines
mod Slots
mod Listing
pub mod Openings
