mod MergeLemmas
mod TableLaws
