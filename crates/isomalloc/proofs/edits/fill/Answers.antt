use Rattle.rank_range.proofs.ChangeLemmas.{keeps_both}
use Rattle.isomalloc.proofs.Changes.{nodes_stay, stays_nodes, stays_header, stays_both}
use Rattle.isomalloc.proofs.edits.fill.Goals as goal

pub returns-clause-nodes : goal.returns-clause-nodes
returns-clause-nodes g c = nodes_stay _ _ _ c.write_header.ensures.beside c.set_kind.ensures.nodes

pub returns-clause-header : goal.returns-clause-header
returns-clause-header g c = rw (c.read_header-header.ensures) at c.write_header.ensures.header

pub returns-clause-stays : goal.returns-clause-stays
returns-clause-stays g c =
    stays_both _ _ _ 0 0 (stays_nodes _ _ c.set_kind.ensures.beside) (stays_header _ _ c.write_header.ensures.beside)

pub returns-clause-kept : goal.returns-clause-kept
returns-clause-kept g c = keeps_both _ _ _ _ _ _ _ _ _ _ _ _ c.set_kind.ensures.kept c.write_header.ensures.kept
