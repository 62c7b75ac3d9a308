use Rattle.std.proofs.Common.{◌∙◌, sym, arith}
use Rattle.schedule.proofs.AnswerLaws.{shorter, nonempty, behind-passes, behind-stops, behind-full, behind-goes_on, behind-last}
use Rattle.schedule.proofs.reader.read_events.Goals as goal

pub loop-rest-smaller : goal.loop-rest-smaller
loop-rest-smaller c = shorter _ _ _ c.line_at.ensures (nonempty _ c.loop-rest-test.ensures)

pub loop-rest-smaller-in_ok-push : goal.loop-rest-smaller-in_ok-push
loop-rest-smaller-in_ok-push c = shorter _ _ _ c.line_at.ensures (nonempty _ c.loop-rest-test.ensures)

pub loop-rest-preserved : goal.loop-rest-preserved
loop-rest-preserved c = record {
  so_far = behind-passes _ _ _ _ _ c.line_at.ensures (nonempty _ c.loop-rest-test.ensures) c.if-not-is_skipped.ensures ∙ c.loop-rest.invariant.so_far;
  few = omega (arith, shorter _ _ _ c.line_at.ensures (nonempty _ c.loop-rest-test.ensures), c.loop-rest.invariant.few);
}

pub loop-rest-preserved-in_ok-push : goal.loop-rest-preserved-in_ok-push
loop-rest-preserved-in_ok-push c = record {
  so_far = behind-goes_on _ _ _ _ _ _ _ c.line_at.ensures (nonempty _ c.loop-rest-test.ensures) c.if-not-is_skipped.ensures
      c.in-Some.ensures (λ e. c.if-len-eq-MOST_EVENTS.false (omega (arith, c.len.ensures, e))) c.in_ok-push.ensures.items
      ∙ c.loop-rest.invariant.so_far;
  few = omega (arith, shorter _ _ _ c.line_at.ensures (nonempty _ c.loop-rest-test.ensures), c.loop-rest.invariant.few);
}

pub returns-then-len-eq-MOST_EVENTS : goal.returns-then-len-eq-MOST_EVENTS
returns-then-len-eq-MOST_EVENTS c =
    sym c.loop-rest.invariant.so_far
    ∙ behind-full _ _ _ _ _ _ c.line_at.ensures (nonempty _ c.loop-rest-test.ensures) c.if-not-is_skipped.ensures
    c.in-Some.ensures (omega (arith, c.len.ensures, c.if-len-eq-MOST_EVENTS.true))

pub returns-in_default : goal.returns-in_default
returns-in_default c =
    sym c.loop-rest.invariant.so_far
    ∙ behind-stops _ _ _ _ _ c.line_at.ensures (nonempty _ c.loop-rest-test.ensures) c.if-not-is_skipped.ensures c.in_default.ensures

pub returns : goal.returns
returns c = sym c.loop-rest.invariant.so_far ∙ behind-last _ _ _ c.loop-rest-test.ensures
