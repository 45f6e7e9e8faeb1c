pub mod FamilyLemmas
pub mod Lists
pub mod Steps
pub mod Keeping
pub mod Hanging
pub mod Parting
pub mod Editing
pub mod Adding
pub mod LeafLemmas
mod Examples
