use Rattle.std.proofs.Common.{◌≡◌, ◌<◌, ◌≤◌, inl, inr, length, arith}
use Rattle.c_check.proofs.Turns.{merged_ends, all_done}
use Rattle.c_check.proofs.redeclared.merged_all.Goals as goal
use Rattle.c_check.proofs.redeclared.merged_all.Goals.{then-loop-at-test+else-at-b, else-loop-at-test}

pub returns : goal.returns
returns c =
    all_done _ _ _
    (elim c.loop-at-test.branch [
      | then-loop-at-test+else-at-b w ↦
          let past = w.if-at-b.false in
          merged_ends c.args.a.now c.args.b.now c.loop-at.at (inr (omega (arith, past)))
      | else-loop-at-test w ↦
          let past = w.loop-at-test.false in
          merged_ends c.args.a.now c.args.b.now c.loop-at.at (inl (omega (arith, past)))
    ])
    c.loop-at.invariant
