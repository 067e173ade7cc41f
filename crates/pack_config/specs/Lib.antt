pub mod First
pub mod Index
pub mod Columns
pub mod Tables
