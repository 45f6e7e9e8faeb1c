mod EdgeLemmas
mod FormLemmas
pub mod LineLemmas
mod InputLemmas
mod NameLemmas
mod StepLemmas
mod ApartLemmas
