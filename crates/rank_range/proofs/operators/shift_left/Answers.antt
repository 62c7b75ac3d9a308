use Rattle.std.proofs.Common.{◌<◌, arith}
use Rattle.rank_range.specs.Kinds.{value_of, bits_of}
use Rattle.rank_range.specs.Operators.{int_shl}
use Rattle.rank_range.proofs.OperatorLemmas.{shift_done, shifted_left}
use Rattle.rank_range.proofs.operators.shift_left.Goals as goal

pub returns : goal.returns
returns c =
    let few : c.args.count < bits_of c.args.kind = omega (arith, c.bits.ensures, c.if-count-bits.false) in
    shift_done int_shl c.args.kind (value_of c.args.kind c.args.a) c.args.count c.extended.result few
    (shifted_left c.args.kind c.args.a c.args.count c.extended.result c.extended.ensures)
