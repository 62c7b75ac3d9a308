use Rattle.std.proofs.Common.{◌≡◌, ◌≤◌, ◌*◌, ◌^◌, take}
use Rattle.std.specs.Prelude.{sum}
use Rattle.rank_image.proofs.head.total.Given as goal

abbrev pub invariant-loop-ticks : goal.invariant-loop-ticks
invariant-loop-ticks l = (l.total ≡ sum (take l.ticks-index l.intervals)) × (l.total ≤ l.ticks-index * 2 ^ 64)
