use Rattle.std.proofs.Common.{◌+◌, ◌-◌, ◌%◌, ◌^◌, ◌≤◌, refl, arith}
use Rattle.rank_range.proofs.OperatorLemmas.{negated}
use Rattle.rank_range.proofs.operators.negate.Goals as goal

pub returns : goal.returns
returns c =
    let small : c.args.a ≤ 2 ^ 64 = omega arith in
    negated c.args.kind c.args.a ((0 + (2 ^ 64 - c.args.a)) % 2 ^ 64) c.extended.result small refl c.extended.ensures
