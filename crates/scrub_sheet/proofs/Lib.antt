pub mod One
pub mod Runs
pub mod Numbers
pub mod Header
pub mod Short
pub mod Counting
