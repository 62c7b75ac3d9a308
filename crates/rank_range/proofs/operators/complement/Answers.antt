use Rattle.std.proofs.Common.{◌^◌, ◌<◌, rules}
use Rattle.rank_range.proofs.OperatorLemmas.{complemented}
use Rattle.rank_range.proofs.operators.complement.Goals as goal

pub returns : goal.returns
returns c =
    let small : c.args.a < 2 ^ 64 = search rules in
    complemented c.args.kind c.args.a c.extended.result small c.extended.ensures
