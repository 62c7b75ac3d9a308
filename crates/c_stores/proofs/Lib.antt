mod SpotLemmas
mod TextLemmas
mod StateLemmas
mod InitTrees
mod DealLemmas
mod WithinLemmas
mod OrderLemmas
