mod EvaluatedLemmas
mod StaticLemmas
