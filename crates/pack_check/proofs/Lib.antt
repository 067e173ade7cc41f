pub mod AsRead
mod Checked
