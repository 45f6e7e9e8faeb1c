pub mod ChangeLemmas
pub mod AreaLemmas
pub mod LossLemmas
pub mod HeldLemmas
pub mod ShapeLemmas
pub mod PresentLemmas
