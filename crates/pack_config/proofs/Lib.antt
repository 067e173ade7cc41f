pub mod Names
pub mod Standing
pub mod Tables
mod Maps
pub mod Openings
pub mod One
