use Rattle.isomalloc.proofs.Fresh.{Written}
use Rattle.isomalloc.proofs.heap.write_fresh.Given as goal

-- the unused nodes so far
abbrev pub invariant-loop-number : goal.invariant-loop-number
invariant-loop-number g l =
    Written (g.M.Mem.rank_of l.fn.memory) (g.M.Mem.rank_of l.memory) (g.M.Mem.top_of l.fn.memory) (g.M.Mem.top_of l.memory)
    (g.M.Mem.bytes_of l.fn.memory) (g.M.Mem.bytes_of l.memory) (g.M.Mem.marks_of l.fn.memory) (g.M.Mem.marks_of l.memory)
    l.number
