pub mod NamedLemmas
pub mod ThreadLemmas
