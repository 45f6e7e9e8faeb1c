pub mod WalkLemmas
pub mod MoveLemmas
pub mod GoodLemmas
pub mod NearLemmas
