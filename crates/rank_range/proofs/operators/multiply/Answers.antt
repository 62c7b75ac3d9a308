use Rattle.std.proofs.Common.{◌*◌, ◌%◌, ◌^◌, refl}
use Rattle.rank_range.proofs.OperatorLemmas.{multiplied}
use Rattle.rank_range.proofs.operators.multiply.Goals as goal

pub returns : goal.returns
returns c = multiplied c.args.kind c.args.a c.args.b ((c.args.a * c.args.b) % 2 ^ 64) c.extended.result refl c.extended.ensures
