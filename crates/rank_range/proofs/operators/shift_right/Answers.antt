use Rattle.std.proofs.Common.{◌∙◌, sym, ◌<◌, arith}
use Rattle.std.specs.Int.{int_shr}
use Rattle.rank_range.specs.Kinds.{value_of, bits_of}
use Rattle.rank_range.proofs.OperatorLemmas.{shift_done, unsigned_shift}
use Rattle.rank_range.proofs.operators.shift_right.Goals as goal

pub returns : goal.returns
returns c =
    let few : c.args.count < bits_of c.args.kind = omega (arith, c.bits.ensures, c.if-count-bits.false) in
    shift_done int_shr c.args.kind (value_of c.args.kind c.args.a) c.args.count c.extended-2.result few
    (unsigned_shift c.args.kind c.args.a c.args.count c.extended.result c.extended-2.result (sym c.is_signed.ensures ∙ c.if-is_signed.false)
    c.extended.ensures c.extended.type_inv c.extended-2.ensures)
