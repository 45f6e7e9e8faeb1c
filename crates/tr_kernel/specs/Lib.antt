pub mod Rows
pub mod Differences
pub mod Masks
pub mod Steps
pub mod Letters
pub mod Blocks
