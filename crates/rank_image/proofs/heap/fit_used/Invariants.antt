use Rattle.std.proofs.Common.{◌≡◌, ◌≤◌, ◌^◌, false, drop}
use Rattle.rank_range.specs.Nodes.{no_node}
use Rattle.rank_image.specs.HeapTest.{fit_used}
use Rattle.rank_image.proofs.heap.fit_used.Given as goal

abbrev pub invariant-loop-i : goal.invariant-loop-i
invariant-loop-i l =
    (fit_used l.bytes no_node 0 false l.used ≡ fit_used l.bytes l.before l.from l.hole (drop l.i l.used)) × (l.from ≤ 2 ^ 33)
