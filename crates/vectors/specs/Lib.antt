pub mod Blocks
pub mod Hex
