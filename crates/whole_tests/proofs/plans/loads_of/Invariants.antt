use Rattle.std.proofs.Common.{◌≡◌, length}
use Rattle.balancers.specs.Loads.{AreByRank}
use Rattle.whole_tests.proofs.plans.loads_of.Given as goal

abbrev pub invariant-loop-word : goal.invariant-loop-word
invariant-loop-word l = record {
  by_rank : AreByRank l.loads.items;
  next : l.rank ≡ length l.loads.items;
}
