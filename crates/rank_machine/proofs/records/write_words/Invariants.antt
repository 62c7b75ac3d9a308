use Rattle.rank_machine.proofs.RecordLemmas.{Written}
use Rattle.rank_machine.proofs.records.write_words.Given as goal

-- what was written so far
abbrev pub invariant-loop-i : goal.invariant-loop-i
invariant-loop-i g l =
    Written (g.M.Mem.rank_of l.fn.memory) (g.M.Mem.rank_of l.memory) (g.M.Mem.top_of l.fn.memory) (g.M.Mem.top_of l.memory)
    (g.M.Mem.bytes_of l.fn.memory) (g.M.Mem.bytes_of l.memory) (g.M.Mem.marks_of l.fn.memory) (g.M.Mem.marks_of l.memory)
    l.at l.words l.i
