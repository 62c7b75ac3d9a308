use Rattle.std.proofs.Common.{◌≡◌, ◌++◌, reverse, length}
use Rattle.c_check.proofs.declarations.reversed.Given as goal

abbrev pub invariant-loop-one : goal.invariant-loop-one
invariant-loop-one l = l.back ++ reverse l.left ≡ reverse l.fn.declared

abbrev pub decreases-loop-one : goal.decreases-loop-one
decreases-loop-one l = length l.left
