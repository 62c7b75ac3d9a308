use Rattle.std.proofs.Common.{arith, length-append}
use Rattle.cluster.proofs.ToldLemmas.{stand-start, one-more-new}
use Rattle.cluster.proofs.told.start.Goals as goal

pub loop-number-preserved : goal.loop-number-preserved
loop-number-preserved c =
    rw c.in_ok-push.ensures.items (
      simp length-append (omega (arith, c.loop-number.invariant.0)),
      one-more-new _ _ _ c.in_ok-new.field-0 c.loop-number.number c.loop-number.invariant.0 c.loop-number.invariant.1
          (record { stands = c.in_ok-new.ensures.start; no_tick = c.in_ok-new.ensures.ticks }),
    )

pub returns : goal.returns
returns c = stand-start _ _ _ (omega (arith, c.loop-number.invariant.0)) c.loop-number.invariant.1
