pub mod Walks
pub mod Moves
pub mod Good
pub mod Near
