use Rattle.std.proofs.Common.{◌≡◌, ◌≤◌, ◌+◌, drop}
use Rattle.rank_image.specs.HeapTest.{count_of}
use Rattle.rank_image.proofs.heap.count_of.Given as goal

abbrev pub invariant-loop-i : goal.invariant-loop-i
invariant-loop-i l =
    (count_of l.bytes l.kind l.nodes ≡ l.count + count_of l.bytes l.kind (drop l.i l.nodes)) × (l.count ≤ l.i)
