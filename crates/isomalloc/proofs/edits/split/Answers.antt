use Rattle.rank_range.proofs.ChangeLemmas.{keeps_both}
use Rattle.isomalloc.proofs.Changes.{split_done, stays_four}
use Rattle.isomalloc.proofs.edits.split.Goals as goal

pub returns-clause-nodes : goal.returns-clause-nodes
returns-clause-nodes g c =
    split_done (g.M.Mem.bytes_of c.args.memory.now) (g.M.Mem.bytes_of c.write_node.new.memory) (g.M.Mem.bytes_of c.write_node-2.new.memory)
    (g.M.Mem.bytes_of c.set_previous.new.memory) (g.M.Mem.bytes_of c.write_header.new.memory) c.args.number c.args.units _ c.requires.below
    (rw (c.read_node-hole.ensures, c.read_header-header.ensures) at c.write_node.ensures.nodes)
    (rw (c.read_node-hole.ensures, c.read_header-header.ensures) at c.write_node-2.ensures.nodes)
    (rw (c.read_node-hole.ensures, c.read_header-header.ensures) at c.set_previous.ensures.nodes)
    c.write_header.ensures.beside

pub returns-clause-header : goal.returns-clause-header
returns-clause-header g c = rw (c.read_node-unused.ensures, c.read_header-header.ensures) at c.write_header.ensures.header

pub returns-clause-stays : goal.returns-clause-stays
returns-clause-stays g c =
    stays_four _ _ _ _ _ c.write_node.ensures.beside c.write_node-2.ensures.beside c.set_previous.ensures.beside c.write_header.ensures.beside

pub returns-clause-kept : goal.returns-clause-kept
returns-clause-kept g c =
    keeps_both _ _ _ _ _ _ _ _ _ _ _ _
    (keeps_both _ _ _ _ _ _ _ _ _ _ _ _
    (keeps_both _ _ _ _ _ _ _ _ _ _ _ _ c.write_node.ensures.kept c.write_node-2.ensures.kept) c.set_previous.ensures.kept)
    c.write_header.ensures.kept
