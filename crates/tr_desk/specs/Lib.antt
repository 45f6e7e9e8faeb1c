pub mod Desks
pub mod Faults
