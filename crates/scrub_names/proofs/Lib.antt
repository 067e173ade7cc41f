pub mod Padded
pub mod Growing
pub mod Noting
pub mod Naming
pub mod One
