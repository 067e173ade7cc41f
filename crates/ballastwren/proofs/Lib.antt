pub mod Checks
pub mod Edge
pub mod Lookups
pub mod Most
pub mod One
pub mod SheetChecks
pub mod Tables
