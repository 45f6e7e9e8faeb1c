pub mod Cuts
pub mod Packs
pub mod Pens
