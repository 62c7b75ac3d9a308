use Rattle.std.proofs.Common.{◌≡◌, ◌==◌, drop}
use Rattle.std.specs.List.{list_all}
use Rattle.rank_image.proofs.heap.are_ones.Given as goal

abbrev pub invariant-loop-count : goal.invariant-loop-count
invariant-loop-count l = list_all (λ n. n == 1) l.counts ≡ list_all (λ n. n == 1) (drop l.count-index l.counts)
