pub mod Texts
pub mod Pieces
pub mod Lines
pub mod Buffers
pub mod Sending
