pub mod Statuses
pub mod Checks
pub mod Answers
pub mod Responses
