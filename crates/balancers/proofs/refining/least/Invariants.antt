use Rattle.balancers.specs.Steps.{IsFirstLeast}
use Rattle.balancers.proofs.refining.least.Given as goal

abbrev pub invariant-loop-i : goal.invariant-loop-i
invariant-loop-i l = IsFirstLeast l.sums l.i l.best
