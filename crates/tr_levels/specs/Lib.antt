pub mod Held
pub mod Levels
