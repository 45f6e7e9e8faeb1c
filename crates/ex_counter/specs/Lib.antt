pub mod Counters
pub mod CounterLaws
