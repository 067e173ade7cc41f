pub mod Records
pub mod Refusals
pub mod Values
