use Rattle.rank_range.specs.Nodes.{HasHeap}
use Rattle.bench.proofs.heaps.are_given.Given as goal

abbrev pub invariant-loop-turn : goal.invariant-loop-turn
invariant-loop-turn g l = HasHeap (g.M.Mem.rank_of l.memory) (g.M.Mem.bytes_of l.memory)
