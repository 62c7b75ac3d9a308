use Rattle.std.proofs.Common.{◌∙◌, sym}
use Rattle.c_stores.proofs.SpotLemmas.{found_here, found_nothing, found_part, none_left}
use Rattle.c_stores.proofs.spots.spot_from.Goals as goal

pub returns-then-is_for-clause-value : goal.returns-then-is_for-clause-value
returns-then-is_for-clause-value c =
    sym (found_here c.loop-levels.levels _ _ _ _ c.loop-levels-test.true (sym c.is_for.ensures ∙ c.if-is_for.true))
    ∙ c.loop-levels.invariant.1

pub returns-in-None-clause-value : goal.returns-in-None-clause-value
returns-in-None-clause-value c =
    sym (found_nothing c.loop-levels.levels _ _ _ _ _ c.loop-levels-test.true (sym c.is_for.ensures ∙ c.if-is_for.false) c.in_ok-inner.ensures.value c.in-None.is)
    ∙ c.loop-levels.invariant.1

pub loop-levels-preserved : goal.loop-levels-preserved
loop-levels-preserved c = (
  (rw c.in-Some.is at c.in_ok-inner.ensures.begun),
  sym (found_part c.loop-levels.levels _ _ _ _ _ _ c.loop-levels-test.true (sym c.is_for.ensures ∙ c.if-is_for.false) c.in_ok-inner.ensures.value c.in-Some.is)
      ∙ c.loop-levels.invariant.1,
)

pub returns-clause-value : goal.returns-clause-value
returns-clause-value c =
    sym (none_left c.loop-levels.levels _ _ _ _ c.loop-levels-test.false) ∙ c.loop-levels.invariant.1
