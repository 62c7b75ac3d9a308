pub mod RotationLemmas
pub mod SpreadLemmas
pub mod SumLemmas
pub mod StandingLemmas
pub mod RefineLemmas
pub mod MoveLemmas
