pub mod Values
pub mod Names
pub mod Steps
pub mod Reports
pub mod Begins
pub mod Words
pub mod Differs
