use Rattle.std.proofs.Common.{◌+◌, ◌%◌, ◌^◌, refl}
use Rattle.rank_range.proofs.OperatorLemmas.{added}
use Rattle.rank_range.proofs.operators.add.Goals as goal

pub returns : goal.returns
returns c = added c.args.kind c.args.a c.args.b ((c.args.a + c.args.b) % 2 ^ 64) c.extended.result refl c.extended.ensures
