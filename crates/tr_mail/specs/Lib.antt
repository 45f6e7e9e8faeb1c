pub mod Mails
pub mod Deliveries
pub mod Bounds
pub mod Sizes
