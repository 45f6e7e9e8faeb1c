pub mod Walks
pub mod Executions
pub mod Unknown
pub mod Strokes
pub mod Painted
