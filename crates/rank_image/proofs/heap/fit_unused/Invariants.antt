use Rattle.std.proofs.Common.{◌≡◌, drop}
use Rattle.rank_image.specs.HeapTest.{fit_unused}
use Rattle.rank_image.proofs.heap.fit_unused.Given as goal

abbrev pub invariant-loop-i : goal.invariant-loop-i
invariant-loop-i l = fit_unused l.bytes l.unused ≡ fit_unused l.bytes (drop l.i l.unused)
