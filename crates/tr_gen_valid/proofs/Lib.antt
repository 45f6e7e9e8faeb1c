pub mod Cutting
mod Decimals
mod Passing
mod Playing
mod Opening
mod StepLines
mod RoundLines
pub mod Rounds
mod Ending
pub mod DrawnLemmas
