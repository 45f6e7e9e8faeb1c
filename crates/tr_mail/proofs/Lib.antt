pub mod BoundLemmas
pub mod SizeLemmas
