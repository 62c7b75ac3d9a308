use Rattle.std.proofs.Common.{◌≤◌, ◌*◌, ◌^◌, ◌≡◌, take, length}
use Rattle.std.specs.BinaryHeap.{heap_items}
use Rattle.balancers.specs.Loads.{total}
use Rattle.balancers.specs.Turns.{AreSpread, Holds, so_far}
use Rattle.balancers.proofs.spreading.spread.Given as goal

abbrev pub invariant-loop-load : goal.invariant-loop-load
invariant-loop-load l = record {
  turns : AreSpread l.live l.order l.load-index l.plan;
  holds : Holds (so_far l.plan l.order l.load-index) l.live (heap_items l.free);
  small : total (take l.load-index l.order) ≤ l.load-index * 2 ^ 64;
  long : length l.plan ≡ length l.initial.plan;
}
