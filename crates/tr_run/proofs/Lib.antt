pub mod RunLemmas
pub mod SpotLemmas
pub mod MailLemmas
pub mod LineLemmas
pub mod ReportLemmas
