use Rattle.std.proofs.Common.{◌≡◌, length}
use Rattle.balancers.specs.Loads.{AreByRank}
use Rattle.bench.proofs.plans.loads_of.Given as goal

abbrev pub invariant-loop-rank : goal.invariant-loop-rank
invariant-loop-rank l = record {
  by_rank : AreByRank l.loads.items;
  next : l.rank ≡ length l.loads.items;
}
