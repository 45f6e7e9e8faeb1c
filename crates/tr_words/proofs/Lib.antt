mod LaneLemmas
mod LineLemmas
mod NumberCuts
pub mod Numbers
mod WordLemmas
