use Rattle.std.proofs.Common.{◌≡◌, ◌-◌, ◌<◌, ◌++◌, All}
use Rattle.rank_range.specs.Nodes.{node_count, chain_of}
use Rattle.rank_image.proofs.heap.chain.Given as goal

abbrev pub invariant-loop-i : goal.invariant-loop-i
invariant-loop-i l =
    (chain_of l.bytes l.most l.fn.first ≡ l.nodes.items ++ chain_of l.bytes (l.most - l.i) l.number)
    × All (λ n. n < node_count) l.nodes.items
