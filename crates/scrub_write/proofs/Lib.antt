mod Close
mod Whole
