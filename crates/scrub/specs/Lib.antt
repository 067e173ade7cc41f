pub mod Ready
pub mod Scrubs
