pub mod Lookup
pub mod Named
pub mod Sought
