use Rattle.std.proofs.Common.{◌+◌, ◌*◌}
use Rattle.isomalloc.proofs.Zeros.{Cleared}
use Rattle.isomalloc.proofs.zero.clear.Given as goal

-- what is zero so far
abbrev pub invariant-loop-word : goal.invariant-loop-word
invariant-loop-word g l =
    Cleared (g.M.Mem.rank_of l.fn.memory) (g.M.Mem.rank_of l.memory) (g.M.Mem.top_of l.fn.memory) (g.M.Mem.top_of l.memory)
    (g.M.Mem.bytes_of l.fn.memory) (g.M.Mem.bytes_of l.memory) (g.M.Mem.marks_of l.fn.memory) (g.M.Mem.marks_of l.memory)
    l.at (l.at + 16 * l.units) l.word
