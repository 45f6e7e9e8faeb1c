pub mod HvLemmas
