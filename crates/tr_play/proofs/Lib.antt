pub mod ListLemmas
pub mod WorkerLemmas
pub mod OrderLemmas
pub mod SessionLemmas
pub mod PlayLemmas
