use Rattle.rank_range.proofs.OperatorLemmas.{is_zero_word}
use Rattle.rank_range.proofs.operators.is_zero.Goals as goal

pub returns : goal.returns
returns c = is_zero_word c.args.kind c.args.a c.is_equal.result c.is_equal.ensures
