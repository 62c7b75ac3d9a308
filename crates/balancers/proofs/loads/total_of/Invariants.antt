use Rattle.std.proofs.Common.{◌≡◌, ◌*◌, ◌≤◌, ◌^◌, take}
use Rattle.balancers.specs.Loads.{total}
use Rattle.balancers.proofs.loads.total_of.Given as goal

abbrev pub invariant-loop-load : goal.invariant-loop-load
invariant-loop-load l = record {
  so_far : l.sum ≡ total (take l.load-index l.loads);
  small : l.sum ≤ l.load-index * 18446744073709551615;
  few : l.load-index ≤ 2 ^ 16;
}
