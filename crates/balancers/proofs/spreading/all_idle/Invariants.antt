use Rattle.std.proofs.Common.{take}
use Rattle.std.specs.BinaryHeap.{heap_items}
use Rattle.balancers.specs.Turns.{Holds}
use Rattle.balancers.proofs.spreading.all_idle.Given as goal

abbrev pub invariant-loop-p : goal.invariant-loop-p
invariant-loop-p l = Holds (λ p. 0) (take l.p-index l.live) (heap_items l.free)
