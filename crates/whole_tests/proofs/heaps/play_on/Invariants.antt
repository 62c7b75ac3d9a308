use Rattle.rank_range.specs.Nodes.{HasHeap}
use Rattle.whole_tests.proofs.heaps.play_on.Given as goal

abbrev pub invariant-loop-line : goal.invariant-loop-line
invariant-loop-line g l = HasHeap (g.M.Mem.rank_of l.memory) (g.M.Mem.bytes_of l.memory)
