use Rattle.std.proofs.Common.{sym, ◌∙◌, ap, subst, arith}
use Rattle.rank_range.specs.Heap.{rounded}
use Rattle.isomalloc.specs.declared.nodes.Entry.{Entry}
use Rattle.isomalloc.specs.declared.nodes.Header.{Header}
use Rattle.isomalloc.proofs.Taken.{known}
use Rattle.isomalloc.proofs.Walk.{Reached, NoRoom, first_small, reached_node, reached_end, way_on, too_small, no_room_start, no_room_next, no_room_end, first_hole}
use Rattle.isomalloc.proofs.holes.find_hole.Goals as goal

pub overflow_cast-number : goal.overflow_cast-number
overflow_cast-number g c =
    let first = ap (λ (h : Header). h.first) c.read_header-number.ensures in
    let small = first_small (g.M.Mem.bytes_of c.args.memory.now) c.requires.sound in
    omega (arith, first, small)

pub loop-number-init : goal.loop-number-init
loop-number-init g c =
    let first = ap (λ (h : Header). h.first) c.read_header-number.ensures in
    subst (Reached (g.M.Mem.bytes_of c.args.memory.now) (NoRoom (g.M.Mem.rank_of c.args.memory.now) (g.M.Mem.bytes_of c.args.memory.now) c.args.size)) (sym first)
    (no_room_start (g.M.Mem.rank_of c.args.memory.now) (g.M.Mem.bytes_of c.args.memory.now) c.args.size c.requires.sound)

pub read_node-entry-requires : goal.read_node-entry-requires
read_node-entry-requires g c =
    (known (g.M.Mem.bytes_of c.args.memory.now) c.loop-number.number (reached_node (g.M.Mem.bytes_of c.args.memory.now) (NoRoom (g.M.Mem.rank_of c.args.memory.now) (g.M.Mem.bytes_of c.args.memory.now) c.args.size) c.loop-number.number c.loop-number.invariant c.loop-number-test.true).used).below

pub returns-then-has_room : goal.returns-then-has_room
returns-then-has_room g c =
    let at = (reached_node (g.M.Mem.bytes_of c.args.memory.now) (NoRoom (g.M.Mem.rank_of c.args.memory.now) (g.M.Mem.bytes_of c.args.memory.now) c.args.size) c.loop-number.number c.loop-number.invariant c.loop-number-test.true) in
    let room = c.has_room.ensures.0 c.if-has_room.true in
    let kind = ap (λ (e : Entry). e.kind) c.read_node-entry.ensures in
    let units = ap (λ (e : Entry). e.units) c.read_node-entry.ensures in
    let size = c.units_of-units.ensures in
    first_hole (g.M.Mem.rank_of c.args.memory.now) (g.M.Mem.bytes_of c.args.memory.now) c.args.size c.loop-number.number at
    (sym kind ∙ room.0) (omega (arith, units, size, room.1))

pub loop-number-smaller : goal.loop-number-smaller
loop-number-smaller g c =
    let at = (reached_node (g.M.Mem.bytes_of c.args.memory.now) (NoRoom (g.M.Mem.rank_of c.args.memory.now) (g.M.Mem.bytes_of c.args.memory.now) c.args.size) c.loop-number.number c.loop-number.invariant c.loop-number-test.true) in
    way_on (g.M.Mem.bytes_of c.args.memory.now) c.loop-number.number c.read_node-entry.result.next
    (ap (λ (e : Entry). e.next) c.read_node-entry.ensures) at.used

pub loop-number-preserved : goal.loop-number-preserved
loop-number-preserved g c =
    let at = (reached_node (g.M.Mem.bytes_of c.args.memory.now) (NoRoom (g.M.Mem.rank_of c.args.memory.now) (g.M.Mem.bytes_of c.args.memory.now) c.args.size) c.loop-number.number c.loop-number.invariant c.loop-number-test.true) in
    let kind = ap (λ (e : Entry). e.kind) c.read_node-entry.ensures in
    let units = ap (λ (e : Entry). e.units) c.read_node-entry.ensures in
    let next = ap (λ (e : Entry). e.next) c.read_node-entry.ensures in
    subst (Reached (g.M.Mem.bytes_of c.args.memory.now) (NoRoom (g.M.Mem.rank_of c.args.memory.now) (g.M.Mem.bytes_of c.args.memory.now) c.args.size)) (sym next)
    (no_room_next (g.M.Mem.rank_of c.args.memory.now) (g.M.Mem.bytes_of c.args.memory.now) c.args.size c.loop-number.number at
    (λ hole. too_small c.read_node-entry.result.kind c.read_node-entry.result.units c.units_of-units.result (rounded c.args.size) _ c.has_room.result
    c.has_room.ensures.1 c.if-has_room.false c.units_of-units.ensures (sym units) (kind ∙ hole)))

pub returns : goal.returns
returns g c =
    no_room_end (g.M.Mem.rank_of c.args.memory.now) (g.M.Mem.bytes_of c.args.memory.now) c.args.size
    (reached_end (g.M.Mem.bytes_of c.args.memory.now)
    (NoRoom (g.M.Mem.rank_of c.args.memory.now) (g.M.Mem.bytes_of c.args.memory.now) c.args.size) c.loop-number.number
    c.loop-number.invariant c.loop-number-test.false)
