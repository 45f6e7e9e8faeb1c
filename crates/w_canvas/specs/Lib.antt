pub mod Areas
pub mod AreaFacts
pub mod Canvases
pub mod PartPatches
pub mod CanvasLaws
