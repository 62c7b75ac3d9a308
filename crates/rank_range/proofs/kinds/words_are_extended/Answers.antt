use Rattle.rank_range.proofs.OperatorLemmas.{are_words, are_extended}
use Rattle.rank_range.proofs.kinds.words_are_extended.Goals as goal

pub returns-clause-words : goal.returns-clause-words
returns-clause-words c = are_words

pub returns-clause-converted : goal.returns-clause-converted
returns-clause-converted c = are_extended
