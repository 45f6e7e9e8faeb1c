pub mod Commands
pub mod Parsers
