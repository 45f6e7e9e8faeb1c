pub mod Losses
pub mod Presents
pub mod Promises
