pub mod PlaceLemmas
pub mod RankLemmas
pub mod ProgressLemmas
pub mod AuditLemmas
pub mod ExactLemmas
