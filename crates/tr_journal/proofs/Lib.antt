pub mod ActorLemmas
pub mod HeldLemmas
pub mod JournalLemmas
pub mod LevelLemmas
pub mod OpeningLemmas
mod Examples
