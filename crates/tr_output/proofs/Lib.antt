pub mod SendingLemmas
pub mod PieceLemmas
pub mod PutLemmas
