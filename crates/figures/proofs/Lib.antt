pub mod Figures
pub mod One
mod Fields
