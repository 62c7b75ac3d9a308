use Rattle.std.proofs.Common.{◌≡◌, ◌-◌, ◌<◌, ◌≤◌, length, arith, sym, ap, ◌∙◌}
use Rattle.std.specs.Prelude.{option_copied}
use Rattle.c_judge.specs.Judging.{has_const}
use Rattle.c_judge.proofs.Pointers.{pointers_turn, no_pointer}
use Rattle.c_judge.proofs.typing.put_pointers.Goals as goal
use Rattle.c_judge.proofs.typing.put_pointers.Goals.{in-Some, in-None}

pub loop-left-preserved : goal.loop-left-preserved
loop-left-preserved c =
    let some = c.loop-left-test.true in
    let within = c.loop-left.invariant.0 in (
      omega (arith, some, within),
      elim c.match-at.branch [
        | in-Some w ↦
            pointers_turn c.args.shapes c.loop-left.shapes c.in_ok-shapes.shapes c.args.pointers.now c.loop-left.left w.in-Some.qualifiers.now c.match-at.is_const some within
            c.loop-left.invariant.1 (sym c.at.ensures ∙ ap option_copied w.in-Some.is) (w.is_const-is ∙ w.has_const-is_const.ensures ∙ ap has_const w.as_slice.ensures)
            c.in_ok-shapes.ensures
        | in-None w ↦ no_pointer c.args.pointers.now c.loop-left.left some within (sym c.at.ensures ∙ ap option_copied w.in-None.is)
      ],
    )
