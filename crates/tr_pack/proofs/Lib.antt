pub mod CutLemmas
pub mod PackLemmas
pub mod ApartLemmas
