pub mod CueLemmas
pub mod ScreenLemmas
pub mod StreamLemmas
pub mod ValueLemmas
pub mod DumpLemmas
pub mod ReportLemmas
pub mod TextLemmas
pub mod ListLemmas
