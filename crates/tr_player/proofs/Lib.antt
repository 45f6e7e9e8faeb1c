pub mod StreamLemmas
pub mod CheckLemmas
pub mod ResponseLemmas
pub mod CallLemmas
