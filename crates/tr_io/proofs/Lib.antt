pub mod AttemptLemmas
