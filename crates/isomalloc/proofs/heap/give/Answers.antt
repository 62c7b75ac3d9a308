use Rattle.isomalloc.proofs.Seen.{on_given, on_refused, heap_given}
use Rattle.isomalloc.proofs.heap.give.Goals as goal

pub returns-clause-heap : goal.returns-clause-heap
returns-clause-heap g c =
    let rank = g.M.Mem.rank_of c.args.memory.now in
    let top = g.M.Mem.top_of c.args.memory.now in
    let old = g.M.Mem.bytes_of c.args.memory.now in
    let new = g.M.Mem.bytes_of c.give_by_nodes.new.memory in
    heap_given c.give_by_nodes.result rank _ c.args.address old new c.give_by_nodes.ensures.kept.owner c.requires c.give_by_nodes.ensures.same_bytes
    c.give_by_nodes.ensures.given

pub returns-clause-given : goal.returns-clause-given
returns-clause-given g c =
    let rank = g.M.Mem.rank_of c.args.memory.now in
    let top = g.M.Mem.top_of c.args.memory.now in
    let old = g.M.Mem.bytes_of c.args.memory.now in
    let new = g.M.Mem.bytes_of c.give_by_nodes.new.memory in
    on_given c.give_by_nodes.result rank top c.args.address old new c.give_by_nodes.ensures.kept.whole c.give_by_nodes.ensures.stays
    c.give_by_nodes.ensures.live c.give_by_nodes.ensures.given

pub returns-clause-refused : goal.returns-clause-refused
returns-clause-refused g c =
    let rank = g.M.Mem.rank_of c.args.memory.now in
    let top = g.M.Mem.top_of c.args.memory.now in
    let old = g.M.Mem.bytes_of c.args.memory.now in
    on_refused c.give_by_nodes.result rank top c.args.address old c.give_by_nodes.ensures.refused
