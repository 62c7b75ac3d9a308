use Rattle.std.proofs.Common.{◌≡◌, ◌<◌, ◌+◌, ℕ, length, take, min}
use Rattle.std.specs.Prelude.{slice_index}
use Rattle.rank_range.specs.Nodes.{node_count, times_in}
use Rattle.rank_image.proofs.heap.count_in.Given as goal

abbrev pub invariant-loop-i : goal.invariant-loop-i
invariant-loop-i l =
    (length l.counts.items ≡ node_count)
    × ((n : ℕ) → n < node_count → slice_index l.counts.items n ≡ min 255 (slice_index l.fn.counts.items n + times_in n (take l.i l.nodes)))
