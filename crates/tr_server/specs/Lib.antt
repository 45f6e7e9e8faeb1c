pub mod Sessions
pub mod Passes
pub mod Servers
pub mod Handing
pub mod Differing
pub mod Closing
pub mod Shares
pub mod Drawings
