use Rattle.rank_range.specs.Nodes.{blocks_of}
use Rattle.isomalloc.proofs.Given.{block_lives}
use Rattle.isomalloc.proofs.heap.give_by_nodes.Goals as goal

pub returns-clause-live : goal.returns-clause-live
returns-clause-live g c =
    block_lives (g.M.Mem.rank_of c.args.memory.now) (g.M.Mem.bytes_of c.args.memory.now) c.args.address c.in-Some.number c.in-Some.ensures
    (blocks_of (g.M.Mem.rank_of c.args.memory.now) (g.M.Mem.bytes_of c.args.memory.now)) c.requires
