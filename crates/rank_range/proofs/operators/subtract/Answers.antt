use Rattle.std.proofs.Common.{◌+◌, ◌-◌, ◌%◌, ◌^◌, ◌≤◌, refl, arith}
use Rattle.rank_range.proofs.OperatorLemmas.{subtracted}
use Rattle.rank_range.proofs.operators.subtract.Goals as goal

pub returns : goal.returns
returns c =
    let small : c.args.b ≤ 2 ^ 64 = omega arith in
    subtracted c.args.kind c.args.a c.args.b ((c.args.a + (2 ^ 64 - c.args.b)) % 2 ^ 64) c.extended.result small refl c.extended.ensures
