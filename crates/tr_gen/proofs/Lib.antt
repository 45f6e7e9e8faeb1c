mod Rows
pub mod RoundLemmas
pub mod LineFeeds
