pub mod Marks
pub mod Given
