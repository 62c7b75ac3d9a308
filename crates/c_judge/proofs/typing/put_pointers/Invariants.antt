use Rattle.std.proofs.Common.{◌≡◌, ◌≤◌, ◌++◌, length, reverse, map, drop}
use Rattle.c_judge.specs.Judging.{pointer_shape}
use Rattle.c_judge.proofs.typing.put_pointers.Given as goal

abbrev pub invariant-loop-left : goal.invariant-loop-left
invariant-loop-left l =
    (l.left ≤ length l.pointers) × (l.shapes ≡ l.initial.shapes ++ reverse (map pointer_shape (drop l.left l.pointers)))

abbrev pub decreases-loop-left : goal.decreases-loop-left
decreases-loop-left l = l.left
