pub mod RunLemmas
pub mod PlayLemmas
