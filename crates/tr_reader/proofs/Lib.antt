pub mod NameLemmas
mod Keeping
