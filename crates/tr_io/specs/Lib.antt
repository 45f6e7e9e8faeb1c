pub mod Faults
pub mod Streams
pub mod States
pub mod Attempts
