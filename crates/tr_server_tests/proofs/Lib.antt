pub mod ShareLemmas
