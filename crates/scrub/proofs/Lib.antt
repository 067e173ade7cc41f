pub mod Flat
pub mod Names
pub mod Tags
pub mod Shown
pub mod Tagged
pub mod Preparing
pub mod Accepting
pub mod Outcome
