use Rattle.std.proofs.Common.{◌∙◌, refl, arith}
use Rattle.schedule.specs.Reading.{lines_of}
use Rattle.schedule.proofs.AnswerLaws.{shorter, nonempty, opened-passes, opened-first, opened-last, some-within}
use Rattle.schedule.proofs.reader.behind_first.Goals as goal

pub loop-rest-smaller : goal.loop-rest-smaller
loop-rest-smaller c = shorter _ _ _ c.line_at.ensures (nonempty _ c.loop-rest-test.ensures)

pub loop-rest-preserved : goal.loop-rest-preserved
loop-rest-preserved c = record {
  so_far = opened-passes _ _ _ _ c.line_at.ensures (nonempty _ c.loop-rest-test.ensures) c.if-not-is_skipped.ensures ∙ c.loop-rest.invariant.so_far;
  few = omega (arith, shorter _ _ _ c.line_at.ensures (nonempty _ c.loop-rest-test.ensures), c.loop-rest.invariant.few);
}

pub returns-then-not-is_skipped-clause-value : goal.returns-then-not-is_skipped-clause-value
returns-then-not-is_skipped-clause-value c =
    opened-first (λ found. (found.0, lines_of found.1.now)) _ _ _ _ _ _ _ c.then_some.ensures c.is_first.ensures refl
    c.line_at.ensures (nonempty _ c.loop-rest-test.ensures) c.if-not-is_skipped.ensures
    ∙ c.loop-rest.invariant.so_far

pub returns-clause-value : goal.returns-clause-value
returns-clause-value c = opened-last _ _ c.loop-rest-test.ensures ∙ c.loop-rest.invariant.so_far

pub returns-then-not-is_skipped-clause-short : goal.returns-then-not-is_skipped-clause-short
returns-then-not-is_skipped-clause-short c =
    some-within _ _ _ _ c.then_some.ensures
    (omega (arith, shorter _ _ _ c.line_at.ensures (nonempty _ c.loop-rest-test.ensures), c.loop-rest.invariant.few))
