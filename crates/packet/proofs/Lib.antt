pub mod TurnLemmas
pub mod TurnLaws
