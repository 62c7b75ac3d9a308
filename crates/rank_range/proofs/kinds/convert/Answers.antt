use Rattle.rank_range.proofs.OperatorLemmas.{converted}
use Rattle.rank_range.proofs.kinds.convert.Goals as goal

pub returns : goal.returns
returns c = converted c.args.from c.args.to c.args.word c.extended.result c.extended-2.result c.extended.ensures c.extended-2.ensures
