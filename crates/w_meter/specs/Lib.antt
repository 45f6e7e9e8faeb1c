pub mod Meters
pub mod MeterLaws
