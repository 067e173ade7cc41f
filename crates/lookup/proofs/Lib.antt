pub mod Steps
pub mod Seeking
pub mod Tags
pub mod Looked
pub mod Means
