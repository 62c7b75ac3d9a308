use Rattle.std.proofs.Common.{◌≡◌, ◌+◌, ◌-◌}
use Rattle.rank_image.specs.HeapTest.{are_zero}
use Rattle.rank_image.proofs.heap.are_zero.Given as goal

abbrev pub invariant-loop-i : goal.invariant-loop-i
invariant-loop-i l = are_zero l.bytes l.at l.size ≡ are_zero l.bytes (l.at + l.i) (l.size - l.i)
