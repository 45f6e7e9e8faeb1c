pub mod Shifts
pub mod Solids
pub mod Boards
pub mod Labels
pub mod SolidLaws
pub mod BoardLaws
pub mod LabelLaws
