pub mod Nodes
pub mod Families
pub mod Edits
pub mod Forests
pub mod Tables
