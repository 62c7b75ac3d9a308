use Rattle.isomalloc.specs.Entries.{repointed}
use Rattle.isomalloc.proofs.Bytes.{none_repointed}
use Rattle.isomalloc.proofs.nodes.set_previous.Goals as goal

pub returns-then-number-eq-NO_NODE-clause-nodes : goal.returns-then-number-eq-NO_NODE-clause-nodes
returns-then-number-eq-NO_NODE-clause-nodes g c =
    none_repointed (g.M.Mem.bytes_of c.args.memory.now) c.args.number c.args.previous c.if-number-eq-NO_NODE.true

pub returns-clause-nodes : goal.returns-clause-nodes
unfolding repointed
returns-clause-nodes g c = rw (c.read_node-entry.ensures) at c.write_node.ensures.nodes
