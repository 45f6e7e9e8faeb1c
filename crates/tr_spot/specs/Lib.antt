pub mod Spots
pub mod Leaves
pub mod Ways
pub mod Changes
pub mod Covers
