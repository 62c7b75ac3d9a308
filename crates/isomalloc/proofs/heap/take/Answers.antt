use Rattle.isomalloc.proofs.Seen.{taken_is, heap_taken}
use Rattle.isomalloc.proofs.heap.take.Goals as goal

pub returns-clause-heap : goal.returns-clause-heap
returns-clause-heap g c =
    let rank = g.M.Mem.rank_of c.args.memory.now in
    let top = g.M.Mem.top_of c.args.memory.now in
    let old = g.M.Mem.bytes_of c.args.memory.now in
    let new = g.M.Mem.bytes_of c.take_by_nodes.new.memory in
    heap_taken rank _ c.args.size c.take_by_nodes.result old new c.take_by_nodes.ensures.kept.owner c.requires c.take_by_nodes.ensures.none
    c.take_by_nodes.ensures.taken

pub returns-clause-taken : goal.returns-clause-taken
returns-clause-taken g c =
    let rank = g.M.Mem.rank_of c.args.memory.now in
    let top = g.M.Mem.top_of c.args.memory.now in
    let old = g.M.Mem.bytes_of c.args.memory.now in
    let new = g.M.Mem.bytes_of c.take_by_nodes.new.memory in
    taken_is rank top c.args.size c.take_by_nodes.result old new c.top-top.ensures.range c.take_by_nodes.ensures.kept.whole
    c.take_by_nodes.ensures.fit c.take_by_nodes.ensures.none c.take_by_nodes.ensures.taken c.take_by_nodes.ensures.zero c.take_by_nodes.ensures.stays
