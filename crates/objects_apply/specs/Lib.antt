pub mod Applied
pub mod Held
pub mod Marks
pub mod Slots
pub mod Worked
