pub mod Surfaces
pub mod Formers
pub mod Frames
pub mod TreeSteps
pub mod Survivors
pub mod TreeChanges
pub mod Counts
