pub mod Cages
