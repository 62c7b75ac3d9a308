use Rattle.balancers.specs.Steps.{IsFirstGreatest}
use Rattle.balancers.proofs.refining.most.Given as goal

abbrev pub invariant-loop-i : goal.invariant-loop-i
invariant-loop-i l = IsFirstGreatest l.sums l.i l.best
