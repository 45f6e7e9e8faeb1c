pub mod Laws
pub mod Runs
pub mod Plain
pub mod Words
pub mod Texts
