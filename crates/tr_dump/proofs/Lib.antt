pub mod BeginsLemmas
pub mod NameLemmas
pub mod JournalLemmas
mod Examples
