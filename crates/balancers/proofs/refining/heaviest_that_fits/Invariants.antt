use Rattle.balancers.specs.Steps.{IsHeaviestThatFits}
use Rattle.balancers.proofs.refining.heaviest_that_fits.Given as goal

abbrev pub invariant-loop-i : goal.invariant-loop-i
invariant-loop-i l = IsHeaviestThatFits l.loads l.plan l.from.0 l.room l.i l.best l.most
