mod WordLemmas
mod ParserLemmas
mod FlagLemmas
mod FoundLemmas
