use Rattle.std.proofs.Common.{◌≡◌, ◌≤◌}
use Rattle.rank_image.specs.HeapTest.{end_in_zeros}
use Rattle.rank_image.proofs.heap.end_in_zeros.Given as goal

abbrev pub invariant-loop-left : goal.invariant-loop-left
invariant-loop-left l = (end_in_zeros l.bytes l.nodes ≡ end_in_zeros l.bytes l.left) × (l.left ≤ l.nodes)

abbrev pub decreases-loop-left : goal.decreases-loop-left
decreases-loop-left l = l.left
