use Rattle.std.proofs.Common.{◌≡◌, ◌-◌, ℕ, length}
use Rattle.std.specs.List.{sum_by}
use Rattle.balancers.specs.Loads.{places}
use Rattle.balancers.specs.Refining.{Moves}
use Rattle.balancers.specs.Steps.{AreSums}
use Rattle.balancers.proofs.refining.refine.Given as goal

abbrev pub invariant-loop-step : goal.invariant-loop-step
invariant-loop-step l = record {
  made : (n : ℕ) × Moves l.loads l.live l.limit n (places l.loads) l.plan.items;
  sums : AreSums l.loads l.live l.plan.items l.sums.items;
  long : length l.plan.items ≡ length l.loads;
}

-- what the processors have above the limit, together
abbrev pub decreases-loop-step : goal.decreases-loop-step
decreases-loop-step l = sum_by (λ w. w - l.limit) l.sums.items
