pub mod HeldLemmas
pub mod OnceLemmas
