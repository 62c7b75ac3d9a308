use Rattle.rank_range.specs.Nodes.{HasHeap}
use Rattle.bench.proofs.heaps.are_taken.Given as goal

abbrev pub invariant-loop-block : goal.invariant-loop-block
invariant-loop-block g l = HasHeap (g.M.Mem.rank_of l.memory) (g.M.Mem.bytes_of l.memory)
