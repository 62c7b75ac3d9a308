use Rattle.std.proofs.Common.{◌*◌, ◌+◌, ap, arith}
use Rattle.rank_range.specs.Heap.{rounded}
use Rattle.rank_range.specs.Nodes.{node_at, blocks_of}
use Rattle.isomalloc.specs.declared.nodes.Entry.{Entry}
use Rattle.isomalloc.specs.declared.nodes.Header.{Header}
use Rattle.isomalloc.proofs.Taken.{known}
use Rattle.isomalloc.proofs.Top.{many_live, no_room, fits_at, put_and_zero, address_is}
use Rattle.isomalloc.proofs.heap.take_by_nodes.Goals as goal

pub returns-then-live-clause-fit : goal.returns-then-live-clause-fit
returns-then-live-clause-fit g c =
    many_live (g.M.Mem.rank_of c.args.memory.now) (g.M.Mem.bytes_of c.args.memory.now) c.args.size c.read_header-live.result.blocks (ap (λ (h : Header). h.blocks) c.read_header-live.ensures) c.if-live.true
    (blocks_of (g.M.Mem.rank_of c.args.memory.now) (g.M.Mem.bytes_of c.args.memory.now)) c.requires

pub returns-in_default-clause-fit : goal.returns-in_default-clause-fit
returns-in_default-clause-fit g c = no_room (g.M.Mem.rank_of c.args.memory.now) (g.M.Mem.bytes_of c.args.memory.now) c.args.size c.in_default.ensures
    (blocks_of (g.M.Mem.rank_of c.args.memory.now) (g.M.Mem.bytes_of c.args.memory.now)) c.requires

pub read_node-requires : goal.read_node-requires
read_node-requires g c = (known (g.M.Mem.bytes_of c.args.memory.now) c.in-Some.number c.in-Some.ensures.used).below

pub overflow_mul-offset : goal.overflow_mul-offset
overflow_mul-offset g c =
    let inside = (known (g.M.Mem.bytes_of c.args.memory.now) c.in-Some.number c.in-Some.ensures.used).inside in
    let start = ap (λ (e : Entry). e.start) c.read_node.ensures in
    omega (arith, inside, start)

pub overflow_add-offset : goal.overflow_add-offset
overflow_add-offset g c =
    let inside = (known (g.M.Mem.bytes_of c.args.memory.now) c.in-Some.number c.in-Some.ensures.used).inside in
    let start = ap (λ (e : Entry). e.start) c.read_node.ensures in
    omega (arith, inside, start)

pub clear-requires-clause-inside : goal.clear-requires-clause-inside
clear-requires-clause-inside g c =
    let inside = (known (g.M.Mem.bytes_of c.args.memory.now) c.in-Some.number c.in-Some.ensures.used).inside in
    let start = ap (λ (e : Entry). e.start) c.read_node.ensures in
    let room = c.in-Some.ensures.room in
    let units = c.units_of-units.ensures in
    omega (arith, inside, start, room, units)

pub returns-clause-fit : goal.returns-clause-fit
returns-clause-fit g c =
    let here = address_is (g.M.Mem.rank_of c.args.memory.now) c.rank.result.0 c.base-base.result (node_at (g.M.Mem.bytes_of c.args.memory.now) c.in-Some.number).start c.read_node.result.start c.base-base.ensures
    c.rank.ensures.value (ap (λ (e : Entry). e.start) c.read_node.ensures) in
    fits_at (g.M.Mem.rank_of c.args.memory.now) (g.M.Mem.bytes_of c.args.memory.now) c.args.size c.in-Some.number c.read_header-live.result.blocks _ c.in-Some.ensures
    (ap (λ (h : Header). h.blocks) c.read_header-live.ensures) c.if-live.false here
    (blocks_of (g.M.Mem.rank_of c.args.memory.now) (g.M.Mem.bytes_of c.args.memory.now)) c.requires

pub returns-clause-taken : goal.returns-clause-taken
returns-clause-taken g c some =
    let here = address_is (g.M.Mem.rank_of c.args.memory.now) c.rank.result.0 c.base-base.result (node_at (g.M.Mem.bytes_of c.args.memory.now) c.in-Some.number).start c.read_node.result.start c.base-base.ensures
    c.rank.ensures.value (ap (λ (e : Entry). e.start) c.read_node.ensures) in
    put_and_zero (g.M.Mem.rank_of c.args.memory.now) (g.M.Mem.bytes_of c.args.memory.now) (g.M.Mem.bytes_of c.occupy.new.memory) (g.M.Mem.bytes_of c.clear.new.memory) (node_at (g.M.Mem.bytes_of c.args.memory.now) c.in-Some.number).start
    c.units_of-units.result _ (rounded c.args.size) (524288 + 16 * c.read_node.result.start) _ c.occupy.ensures.blocks c.clear.ensures.beside
    (omega arith) here c.units_of-units.ensures (blocks_of (g.M.Mem.rank_of c.args.memory.now) (g.M.Mem.bytes_of c.args.memory.now)) c.requires
