use Rattle.isomalloc.proofs.Walk.{Reached, NoneLive, way_left}
use Rattle.isomalloc.proofs.live.find_block.Given as goal

abbrev pub invariant-loop-number : goal.invariant-loop-number
invariant-loop-number g l =
    Reached (g.M.Mem.bytes_of l.memory) (NoneLive (g.M.Mem.rank_of l.memory) (g.M.Mem.bytes_of l.memory) l.address) l.number

abbrev pub decreases-loop-number : goal.decreases-loop-number
decreases-loop-number g l = way_left (g.M.Mem.bytes_of l.memory) l.number
