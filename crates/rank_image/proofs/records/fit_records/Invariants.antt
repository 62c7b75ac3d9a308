use Rattle.std.proofs.Common.{◌≡◌, ◌≤◌}
use Rattle.rank_image.specs.Image.{fit_records}
use Rattle.rank_image.proofs.records.fit_records.Given as goal

abbrev pub invariant-loop-left : goal.invariant-loop-left
invariant-loop-left l = (fit_records l.bytes l.depth ≡ fit_records l.bytes l.left) × (l.left ≤ l.depth)

abbrev pub decreases-loop-left : goal.decreases-loop-left
decreases-loop-left l = l.left
