use Rattle.std.proofs.Common.{◌≡◌, ◌*◌, ◌≤◌, ◌^◌, map, take}
use Rattle.balancers.specs.Loads.{places, total}
use Rattle.balancers.specs.Turns.{so_far}
use Rattle.balancers.proofs.refining.sums_of.Given as goal

abbrev pub invariant-loop : goal.invariant-loop
invariant-loop l = l.sums.items ≡ map (λ q. 0) (take l.index l.live)

abbrev pub invariant-loop-load : goal.invariant-loop-load
invariant-loop-load l = record {
  sums : l.sums.items ≡ map (so_far (places l.loads) l.loads l.load-index) l.live;
  small : total (take l.load-index l.loads) ≤ l.load-index * 2 ^ 64;
}
