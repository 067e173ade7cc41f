pub mod Keys
pub mod Edits
pub mod Folds
pub mod Well
pub mod Kept
pub mod Sets
pub mod Exact
pub mod Laws
