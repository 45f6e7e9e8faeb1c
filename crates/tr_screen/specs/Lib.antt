pub mod Pictures
pub mod Lending
pub mod Runs
pub mod RunLending
pub mod Copies
pub mod Resizing
pub mod Readings
pub mod Letters
