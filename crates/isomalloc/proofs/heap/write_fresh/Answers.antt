use Rattle.isomalloc.proofs.Fresh.{written_none, written_more, fresh_spells, fresh_done}
use Rattle.isomalloc.proofs.heap.write_fresh.Goals as goal

pub loop-number-init : goal.loop-number-init
loop-number-init g c =
    written_none (g.M.Mem.rank_of c.args.memory.now) (g.M.Mem.top_of c.args.memory.now) (g.M.Mem.bytes_of c.args.memory.now)
    (g.M.Mem.marks_of c.args.memory.now) c.requires

pub loop-number-preserved : goal.loop-number-preserved
loop-number-preserved g c =
    written_more _ _ _ _ _ _ (g.M.Mem.bytes_of c.args.memory.now) (g.M.Mem.bytes_of c.loop-number.memory) (g.M.Mem.bytes_of c.write_node.new.memory)
    _ _ _ c.loop-number.number c.unused_before.result c.unused_before.ensures c.loop-number-test.true c.loop-number.invariant
    c.write_node.ensures.nodes c.write_node.ensures.beside c.write_node.ensures.kept

pub returns-clause-spelled : goal.returns-clause-spelled
returns-clause-spelled g c =
    fresh_spells (g.M.Mem.rank_of c.args.memory.now) (g.M.Mem.bytes_of c.write_header.new.memory)
    (fresh_done _ _ _ _ (g.M.Mem.bytes_of c.args.memory.now) (g.M.Mem.bytes_of c.loop-number.memory) (g.M.Mem.bytes_of c.write_node-2.new.memory)
    (g.M.Mem.bytes_of c.write_header.new.memory) _ _ c.loop-number.number c.requires c.loop-number-test.false c.loop-number.invariant
    c.write_node-2.ensures.nodes c.write_node-2.ensures.beside c.write_header.ensures.beside c.write_header.ensures.header)
