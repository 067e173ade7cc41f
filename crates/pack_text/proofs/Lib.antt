pub mod Fields
pub mod Items
pub mod Shown
pub mod Whole
pub mod Within
pub mod Worked
pub mod One
