pub mod Blocks
pub mod Filling
pub mod Loops
pub mod Reading
