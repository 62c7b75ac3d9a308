use Rattle.rank_range.proofs.OperatorLemmas.{words_equal}
use Rattle.rank_range.proofs.operators.is_equal.Goals as goal

pub returns : goal.returns
returns c = words_equal c.args.kind c.args.a c.args.b c.extended.result c.extended-2.result c.extended.ensures c.extended-2.ensures
