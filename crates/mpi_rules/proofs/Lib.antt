pub mod ByteLemmas
pub mod OpenLemmas
pub mod ComeLemmas
pub mod CallLemmas
