pub mod Outputs
pub mod Reports
pub mod Screens
pub mod Streams
pub mod Values
