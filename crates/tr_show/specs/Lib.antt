pub mod Shows
pub mod Passes
