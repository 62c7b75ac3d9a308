use Rattle.std.proofs.Common.{◌≡◌, ◌<◌, ◌∙◌, ap, subst, sym, arith}
use Rattle.rank_range.specs.Nodes.{node_at}
use Rattle.isomalloc.specs.declared.nodes.Entry.{Entry}
use Rattle.isomalloc.specs.Search.{Occupies}
use Rattle.isomalloc.proofs.Taken.{known, used_holes, used_spare, filled, parted}
use Rattle.isomalloc.proofs.edits.occupy.Goals as goal

pub read_node-entry-requires : goal.read_node-entry-requires
read_node-entry-requires g c = (known (g.M.Mem.bytes_of c.args.memory.now) c.args.number c.requires.used).below

pub fill-requires-clause-below : goal.fill-requires-clause-below
fill-requires-clause-below g c = (known (g.M.Mem.bytes_of c.args.memory.now) c.args.number c.requires.used).below

pub fill-requires-clause-some : goal.fill-requires-clause-some
fill-requires-clause-some g c = used_holes (g.M.Mem.bytes_of c.args.memory.now) c.args.number c.requires.used c.requires.hole

pub split-requires-clause-below : goal.split-requires-clause-below
split-requires-clause-below g c = (known (g.M.Mem.bytes_of c.args.memory.now) c.args.number c.requires.used).below

pub split-requires-clause-known : goal.split-requires-clause-known
split-requires-clause-known g c = (known (g.M.Mem.bytes_of c.args.memory.now) c.args.number c.requires.used).next

pub split-requires-clause-spare : goal.split-requires-clause-spare
split-requires-clause-spare g c = used_spare (g.M.Mem.bytes_of c.args.memory.now) c.args.number c.requires.used c.requires.few

pub split-requires-clause-inside : goal.split-requires-clause-inside
split-requires-clause-inside g c = (known (g.M.Mem.bytes_of c.args.memory.now) c.args.number c.requires.used).inside

pub returns-then-units-entry-clause-blocks : goal.returns-then-units-entry-clause-blocks
returns-then-units-entry-clause-blocks g c =
    let old = g.M.Mem.bytes_of c.args.memory.now in
    let units : (node_at old c.args.number).units ≡ c.args.units =
    sym (c.if-units-entry.true ∙ ap (λ (e : Entry). e.units) c.read_node-entry.ensures) in
    subst (Occupies old (g.M.Mem.bytes_of c.fill.new.memory) (node_at old c.args.number).start) units
    (filled old (g.M.Mem.bytes_of c.fill.new.memory) c.args.number c.requires.used c.requires.hole c.requires.few c.fill.ensures.nodes
    c.fill.ensures.header c.fill.ensures.stays)

pub returns-else-units-entry-clause-blocks : goal.returns-else-units-entry-clause-blocks
returns-else-units-entry-clause-blocks g c =
    let old = g.M.Mem.bytes_of c.args.memory.now in
    let units = ap (λ (e : Entry). e.units) c.read_node-entry.ensures in
    let short : c.args.units < (node_at old c.args.number).units =
    omega (arith, units, c.requires.room, c.if-units-entry.false) in
    parted old (g.M.Mem.bytes_of c.split.new.memory) c.args.number c.args.units c.requires.used c.requires.hole c.requires.few
    c.requires.some short c.split.ensures.nodes c.split.ensures.header c.split.ensures.stays
