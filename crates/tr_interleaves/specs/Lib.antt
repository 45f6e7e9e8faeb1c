pub mod Interleaves
pub mod Stretches
