use Rattle.std.proofs.Common.{ℕ, ◌<◌, get_or, Contains}
use Rattle.balancers.specs.declared.loads.Load.{Load}
use Rattle.bench.proofs.plans.are_placed.Given as goal

abbrev pub invariant-loop-load : goal.invariant-loop-load
invariant-loop-load l = (k : ℕ) (d : Load) → k < l.load-index → Contains l.live (get_or l.loads k d).place
