pub mod Bench
pub mod Promises
pub mod Starts
