use Rattle.std.proofs.Common.{sym, ◌∙◌}
use Rattle.rank_range.specs.declared.operators.Binary.TheVariants as machine
use Rattle.c_const.specs.Statics.{converted, changed, denied, binary, both, either}
use Rattle.c_const.proofs.StaticLemmas.{convert_behind, unary_behind, not_behind, member_behind, binary_behind, greater_behind, at_least_behind, offset_behind, and_behind, or_behind, conditional_behind, behind_has_nothing, one_told, two_told, offset_told, chosen_told, step_next, all_steps}
use Rattle.c_const.proofs.statics.+value.Goals as goal

pub static_value-loop-step-preserved : goal.static_value-loop-step-preserved
static_value-loop-step-preserved t c =
    step_next _ _ _ _ _ _ c.loop-step-test.true c.step-item.is c.loop-step.invariant c.behind-value.ensures

pub static_value-returns : goal.static_value-returns
static_value-returns t c = all_steps _ _ _ _ c.as_slice-step-items.ensures c.loop-step-test.false c.loop-step.invariant

pub behind-returns-in-Convert : goal.behind-returns-in-Convert
behind-returns-in-Convert t c =
    one_told (converted _ _) _ _ _ _ c.number_in.ensures c.converted.ensures (convert_behind _ _ _ _ c.in-Convert.is)

pub behind-returns-in-Unary : goal.behind-returns-in-Unary
behind-returns-in-Unary t c =
    one_told (changed _ _) _ _ _ _ c.number_in-in-Unary.ensures c.changed.ensures (unary_behind _ _ _ _ c.in-Unary.is)

pub behind-returns-in-Not : goal.behind-returns-in-Not
behind-returns-in-Not t c = one_told denied _ _ _ _ c.number_in-in-Not.ensures c.denied.ensures (not_behind _ _ c.in-Not.is)

pub behind-returns-in-Member : goal.behind-returns-in-Member
behind-returns-in-Member t c = c.member.ensures ∙ sym (member_behind _ _ _ c.in-Member.is)

pub behind-returns-in-Binary : goal.behind-returns-in-Binary
behind-returns-in-Binary t c =
    two_told (binary c.in-Binary.op c.in-Binary.kind) _ _ _ _ _ _ _ _ c.number_in-in-Binary.ensures c.get.ensures c.static_value.ensures c.number_in-in-Binary-2.ensures
    c.binary.ensures (binary_behind _ _ _ _ _ c.in-Binary.is)

pub behind-returns-in-Greater : goal.behind-returns-in-Greater
behind-returns-in-Greater t c =
    two_told (λ n m. binary machine.Less c.in-Greater.kind m n) _ _ _ _ _ _ _ _ c.number_in-in-Greater-2.ensures c.get-in-Greater.ensures c.static_value-in-Greater.ensures
    c.number_in-in-Greater.ensures c.binary-in-Greater.ensures (greater_behind _ _ _ _ c.in-Greater.is)

pub behind-returns-in-AtLeast : goal.behind-returns-in-AtLeast
behind-returns-in-AtLeast t c =
    two_told (λ n m. binary machine.AtMost c.in-AtLeast.kind m n) _ _ _ _ _ _ _ _ c.number_in-in-AtLeast-2.ensures c.get-in-AtLeast.ensures c.static_value-in-AtLeast.ensures
    c.number_in-in-AtLeast.ensures c.binary-in-AtLeast.ensures (at_least_behind _ _ _ _ c.in-AtLeast.is)

pub behind-returns-in-Offset : goal.behind-returns-in-Offset
behind-returns-in-Offset t c =
    offset_told _ _ _ _ _ _ _ _ c.get-in-Offset.ensures c.static_value-in-Offset.ensures c.offset_by.ensures (offset_behind _ _ _ _ _ c.in-Offset.is)

pub behind-returns-in-And : goal.behind-returns-in-And
behind-returns-in-And t c =
    two_told both _ _ _ _ _ _ _ _ c.number_in-in-And.ensures c.get-in-And.ensures c.static_value-in-And.ensures c.number_in-in-And-2.ensures
    c.both.ensures (and_behind _ _ _ c.in-And.is)

pub behind-returns-in-Or : goal.behind-returns-in-Or
behind-returns-in-Or t c =
    two_told either _ _ _ _ _ _ _ _ c.number_in-in-Or.ensures c.get-in-Or.ensures c.static_value-in-Or.ensures c.number_in-in-Or-2.ensures
    c.either.ensures (or_behind _ _ _ c.in-Or.is)

pub behind-returns-in-Conditional : goal.behind-returns-in-Conditional
behind-returns-in-Conditional t c =
    chosen_told _ _ _ _ _ _ _ _ _ _ _ _ c.number_in-in-Conditional.ensures c.get-in-Conditional.ensures c.static_value-in-Conditional.ensures
    c.number_in-in-Conditional-2.ensures c.get-in-Conditional-2.ensures c.static_value-in-Conditional-2.ensures c.number_in-in-Conditional-3.ensures
    c.chosen.ensures (conditional_behind _ _ _ _ c.in-Conditional.is)

pub behind-returns-in-Load : goal.behind-returns-in-Load
behind-returns-in-Load t c = behind_has_nothing _ _ c.in-Load.is

pub behind-returns-in-Load-2 : goal.behind-returns-in-Load-2
behind-returns-in-Load-2 t c = behind_has_nothing _ _ c.in-Load.is

pub behind-returns-in-Load-3 : goal.behind-returns-in-Load-3
behind-returns-in-Load-3 t c = behind_has_nothing _ _ c.in-Load.is

pub behind-returns-in-Load-4 : goal.behind-returns-in-Load-4
behind-returns-in-Load-4 t c = behind_has_nothing _ _ c.in-Load.is

pub behind-returns-in-Load-5 : goal.behind-returns-in-Load-5
behind-returns-in-Load-5 t c = behind_has_nothing _ _ c.in-Load.is

pub behind-returns-in-Load-6 : goal.behind-returns-in-Load-6
behind-returns-in-Load-6 t c = behind_has_nothing _ _ c.in-Load.is

pub behind-returns-in-Load-7 : goal.behind-returns-in-Load-7
behind-returns-in-Load-7 t c = behind_has_nothing _ _ c.in-Load.is

pub behind-returns-in-Load-8 : goal.behind-returns-in-Load-8
behind-returns-in-Load-8 t c = behind_has_nothing _ _ c.in-Load.is
