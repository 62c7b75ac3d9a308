use Rattle.std.proofs.Common.{◌-◌, length, drop}
use Rattle.rank_machine.specs.Opening.{HasBases}
use Rattle.rank_machine.proofs.opening.add_bases.Given as goal

-- the base was added at the offsets so far
abbrev pub invariant-loop-i : goal.invariant-loop-i
invariant-loop-i g l =
    HasBases (g.M.Mem.rank_of l.initial.m) (g.M.Mem.rank_of l.m) (g.M.Mem.top_of l.initial.m) (g.M.Mem.top_of l.m)
    (g.M.Mem.bytes_of l.initial.m) (g.M.Mem.bytes_of l.m) (g.M.Mem.marks_of l.initial.m) (g.M.Mem.marks_of l.m)
    l.fixes (drop l.i l.fixes)

abbrev pub decreases-loop-i : goal.decreases-loop-i
decreases-loop-i g l = length l.fixes - l.i
