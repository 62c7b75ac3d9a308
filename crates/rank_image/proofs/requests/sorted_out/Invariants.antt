use Rattle.std.proofs.Common.{◌≡◌, length}
use Rattle.std.specs.Prelude.{reverse}
use Rattle.rank_image.specs.Requests.{sorted}
use Rattle.rank_image.proofs.Sorting.{sorted_onto}
use Rattle.rank_image.proofs.requests.sorted_out.Given as goal

abbrev pub invariant-loop-request : goal.invariant-loop-request
invariant-loop-request l = sorted l.next l.fn.found.items ≡ sorted_onto l.requests (reverse l.left.items)

abbrev pub decreases-loop-request : goal.decreases-loop-request
decreases-loop-request l = length l.left.items
