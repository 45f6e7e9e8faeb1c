pub mod StretchLemmas
pub mod LegalLemmas
mod Examples
