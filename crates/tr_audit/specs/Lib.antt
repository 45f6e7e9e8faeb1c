pub mod Audits
pub mod Progress
