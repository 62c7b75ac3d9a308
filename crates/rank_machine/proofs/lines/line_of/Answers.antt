use Rattle.std.proofs.Common.{◌<◌, ◌-◌, ap, length, arith}
use Rattle.rank_machine.proofs.ListLemmas.{found_at}
use Rattle.rank_machine.proofs.LineLemmas.{past_end, same_here, one_before, told_here, first_line}
use Rattle.rank_machine.proofs.lines.line_of.Goals as goal
use Rattle.rank_machine.proofs.lines.line_of.Goals.{then-place-instrs, else-place-instrs}

pub loop-at-init : goal.loop-at-init
loop-at-init c =
    let size = ap length c.as_slice-instrs.ensures in
    elim c.if-place-instrs.branch [
      | then-place-instrs w ↦ (let below = w.if-place-instrs.true in same_here _ _ _ (omega (arith, below, size)) w.at-is)
      | else-place-instrs w ↦ (let past = w.if-place-instrs.false in let at = w.at-is in past_end _ _ _ (omega (arith, past, size)) (omega (arith, at, size)))
    ]

pub returns-in-Some : goal.returns-in-Some
returns-in-Some c =
    let within : c.loop-at.at - 1 < length c.args.code.now.instrs = (let bound = c.loop-at.invariant.within in omega (arith, bound, c.loop-at-test.true)) in
    told_here c.lines_are_told_before.ensures _ _ _ _ _ c.loop-at.invariant c.loop-at-test.true (found_at _ _ _ _ c.as_slice-instrs.ensures within)
    (c.in-Some.ensures _)

pub loop-at-preserved : goal.loop-at-preserved
loop-at-preserved c =
    let within : c.loop-at.at - 1 < length c.args.code.now.instrs = (let bound = c.loop-at.invariant.within in omega (arith, bound, c.loop-at-test.true)) in
    one_before c.lines_are_told_before.ensures _ _ _ _ c.loop-at.invariant c.loop-at-test.true (found_at _ _ _ _ c.as_slice-instrs.ensures within)
    (c.in_default.ensures _)

pub returns : goal.returns
returns c = first_line _ _ _ c.loop-at.invariant (let none = c.loop-at-test.false in omega (arith, none))
