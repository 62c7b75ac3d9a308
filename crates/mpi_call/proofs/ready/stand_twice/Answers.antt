use Rattle.std.proofs.Common.{Bool, not, ◌==◌, ◌&&◌, ◌∙◌, ap, sym}
use Rattle.mpi_call.proofs.ReadyLemmas.{twice_more, twice_found, twice_past}
use Rattle.mpi_call.proofs.ready.stand_twice.Goals as goal

pub loop-i-preserved : goal.loop-i-preserved
loop-i-preserved c =
    twice_more c.args.count c.loop-i.i c.number_in-number.result c.args.bytes.now c.loop-i-test.true c.number_in-number.ensures
    (sym (c.is_twice.ensures ∙ ap (λ (b : Bool). not (c.number_in-number.result == 0) && b) c.stands_later.ensures) ∙ c.if-is_twice.false) ∙ c.loop-i.invariant

pub returns-then-is_twice : goal.returns-then-is_twice
returns-then-is_twice c =
    sym (sym c.loop-i.invariant
    ∙ twice_found c.args.count c.loop-i.i c.number_in-number.result c.args.bytes.now c.loop-i-test.true c.number_in-number.ensures
    (sym (c.is_twice.ensures ∙ ap (λ (b : Bool). not (c.number_in-number.result == 0) && b) c.stands_later.ensures) ∙ c.if-is_twice.true))

pub returns : goal.returns
returns c = sym (sym c.loop-i.invariant ∙ twice_past c.args.count c.loop-i.i c.args.bytes.now c.loop-i-test.false)
