use Rattle.rank_range.specs.Nodes.{HasHeap}
use Rattle.whole_tests.proofs.heaps.show_wild.Given as goal

abbrev pub invariant-loop-call : goal.invariant-loop-call
invariant-loop-call g l = HasHeap (g.M.Mem.rank_of l.memory) (g.M.Mem.bytes_of l.memory)
