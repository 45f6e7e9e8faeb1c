pub mod Lines
pub mod LinesLaws
