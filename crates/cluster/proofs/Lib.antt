pub mod StartLemmas
pub mod StepLemmas
pub mod GroupLemmas
pub mod ToldLemmas
pub mod WholeLemmas
