pub mod Stages
pub mod Standings
pub mod Making
pub mod Exposures
pub mod Sharing
pub mod Sketching
