pub mod LearningLemmas
