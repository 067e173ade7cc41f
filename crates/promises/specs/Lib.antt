pub mod Bench
pub mod Starts
