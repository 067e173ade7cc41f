pub mod Figures
pub mod Fields
