use Rattle.std.proofs.Common.{◌≡◌, ◌-◌, ◌++◌, drop, length}
use Rattle.c_check.specs.Redeclared.{merged_all}
use Rattle.c_check.proofs.redeclared.merged_all.Given as goal

abbrev pub invariant-loop-at : goal.invariant-loop-at
invariant-loop-at l = l.all ++ merged_all (drop l.at l.a) (drop l.at l.b) ≡ merged_all l.fn.a l.fn.b

abbrev pub decreases-loop-at : goal.decreases-loop-at
decreases-loop-at l = length l.a - l.at
