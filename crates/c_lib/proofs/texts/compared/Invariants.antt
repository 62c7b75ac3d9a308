use Rattle.std.proofs.Common.{◌≡◌, length}
use Rattle.rank_range.specs.Library.{compared}
use Rattle.c_lib.proofs.texts.compared.Given as goal

abbrev pub invariant-loop-left : goal.invariant-loop-left
invariant-loop-left l = compared l.left l.right ≡ compared l.xs l.ys

abbrev pub decreases-loop-left : goal.decreases-loop-left
decreases-loop-left l = length l.left
