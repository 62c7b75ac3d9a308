use Rattle.std.proofs.Common.{◌-◌, length}
use Rattle.rank_machine.proofs.CallLemmas.{Stored}
use Rattle.rank_machine.proofs.calls.put_arguments.Given as goal

-- the arguments so far were stored
abbrev pub invariant-loop-i : goal.invariant-loop-i
invariant-loop-i g l =
    Stored (g.M.Mem.rank_of l.initial.memory) (g.M.Mem.rank_of l.memory) (g.M.Mem.top_of l.initial.memory) (g.M.Mem.top_of l.memory)
    (g.M.Mem.bytes_of l.initial.memory) (g.M.Mem.bytes_of l.memory) (g.M.Mem.marks_of l.initial.memory) (g.M.Mem.marks_of l.memory)
    l.parameters l.words l.start l.i

abbrev pub decreases-loop-i : goal.decreases-loop-i
decreases-loop-i g l = length l.words - l.i
