pub mod Lists
pub mod Places
pub mod Workers
pub mod Plays
pub mod Sessions
pub mod Begun
