use Rattle.isomalloc.proofs.Walk.{Reached, NoRoom, way_left}
use Rattle.isomalloc.proofs.holes.find_hole.Given as goal

abbrev pub invariant-loop-number : goal.invariant-loop-number
invariant-loop-number g l =
    Reached (g.M.Mem.bytes_of l.memory) (NoRoom (g.M.Mem.rank_of l.memory) (g.M.Mem.bytes_of l.memory) l.size) l.number

abbrev pub decreases-loop-number : goal.decreases-loop-number
decreases-loop-number g l = way_left (g.M.Mem.bytes_of l.memory) l.number
