use Rattle.rank_range.proofs.OperatorLemmas.{are_given, is_given}
use Rattle.rank_range.proofs.operators.words_are_given.Goals as goal

pub returns-clause-two : goal.returns-clause-two
returns-clause-two c = are_given

pub returns-clause-one : goal.returns-clause-one
returns-clause-one c = is_given
