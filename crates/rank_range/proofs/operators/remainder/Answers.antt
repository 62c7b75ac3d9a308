use Rattle.std.proofs.Common.{◌∙◌, sym, ℤ}
use Rattle.std.specs.Prelude.{int_rem}
use Rattle.std.specs.Int.{w64, cast_signed, cast_unsigned}
use Rattle.rank_range.specs.Kinds.{value_of}
use Rattle.rank_range.proofs.OperatorLemmas.{signed_division, division_done, signed_result, signed_rest, unsigned_rest, divisor_above}
use Rattle.rank_range.proofs.operators.remainder.Goals as goal

pub nonzero_rem-rest : goal.nonzero_rem-rest
nonzero_rem-rest c =
    signed_division c.args.kind c.args.a c.args.b c.number_in.result c.number_in-then-is_signed.result
    (sym c.is_signed.ensures ∙ c.if-is_signed.true) (sym c.in_default.ensures) c.number_in.ensures c.number_in-then-is_signed.ensures

pub returns-then-is_signed : goal.returns-then-is_signed
returns-then-is_signed c =
    let x = c.number_in.result in
    let y = c.number_in-then-is_signed.result in
    let z : ℤ = cast_signed w64 (cast_unsigned w64 (int_rem (cast_signed w64 (cast_unsigned w64 x)) (cast_signed w64 (cast_unsigned w64 y)))) in
    division_done int_rem c.args.kind (value_of c.args.kind c.args.a) (value_of c.args.kind c.args.b) c.reduced_word.result
    (sym c.in_default.ensures)
    (signed_result c.args.kind (int_rem (value_of c.args.kind c.args.a) (value_of c.args.kind c.args.b)) z c.reduced_word.result c.reduced_word.ensures
    (signed_rest c.args.kind c.args.a c.args.b x y (sym c.is_signed.ensures ∙ c.if-is_signed.true) c.number_in.ensures c.number_in-then-is_signed.ensures))

pub nonzero_rem-extended : goal.nonzero_rem-extended
nonzero_rem-extended c =
    divisor_above c.args.kind c.args.a c.args.b c.extended-divisor.result (sym c.is_signed.ensures ∙ c.if-is_signed.false)
    (sym c.in_default.ensures) c.extended-divisor.ensures

pub returns : goal.returns
returns c =
    division_done int_rem c.args.kind (value_of c.args.kind c.args.a) (value_of c.args.kind c.args.b) c.extended-2.result
    (sym c.in_default.ensures)
    (unsigned_rest c.args.kind c.args.a c.args.b c.extended.result c.extended-divisor.result c.extended-2.result
    (sym c.is_signed.ensures ∙ c.if-is_signed.false) c.extended.ensures c.extended-divisor.ensures c.extended.type_inv c.extended-2.ensures)
