pub mod AreaLemmas
pub mod FigureLemmas
pub mod WordLemmas
