use Rattle.std.proofs.Common.{◌+◌, arith}
use Rattle.rank_range.proofs.ChangeLemmas.{beside_more, keeps_one, keeps_both}
use Rattle.isomalloc.proofs.Bytes.{IsPut, FivePut, five_nodes, five_beside, put_length}
use Rattle.isomalloc.proofs.nodes.write_node.Given.{Over}
use Rattle.isomalloc.proofs.nodes.write_node.Goals as goal

start : (g : Over) (c : goal.After-set_raw-5 g) → IsPut (g.M.Mem.bytes_of c.args.memory.now) (g.M.Mem.bytes_of c.set_raw.new.self) c.place-at.result 4 c.args.entry.start
start g c = record { is = c.set_raw.ensures.bytes; room = omega (arith, c.requires.whole, c.place-at.ensures.inside); fits = omega arith }

units : (g : Over) (c : goal.After-set_raw-5 g) → IsPut (g.M.Mem.bytes_of c.set_raw.new.self) (g.M.Mem.bytes_of c.set_raw-2.new.self) (c.place-at.result + 4) 4 c.args.entry.units
units g c =
    let size = put_length _ _ _ _ _ (start g c) in
    record { is = c.set_raw-2.ensures.bytes; room = omega (arith, c.requires.whole, c.place-at.ensures.inside, size); fits = omega arith }

previous : (g : Over) (c : goal.After-set_raw-5 g) → IsPut (g.M.Mem.bytes_of c.set_raw-2.new.self) (g.M.Mem.bytes_of c.set_raw-3.new.self) (c.place-at.result + 8) 2 c.args.entry.previous
previous g c =
    let size = put_length _ _ _ _ _ (start g c) in
    let size2 = put_length _ _ _ _ _ (units g c) in
    record { is = c.set_raw-3.ensures.bytes; room = omega (arith, c.requires.whole, c.place-at.ensures.inside, size, size2); fits = omega arith }

next : (g : Over) (c : goal.After-set_raw-5 g) → IsPut (g.M.Mem.bytes_of c.set_raw-3.new.self) (g.M.Mem.bytes_of c.set_raw-4.new.self) (c.place-at.result + 10) 2 c.args.entry.next
next g c =
    let size = put_length _ _ _ _ _ (start g c) in
    let size2 = put_length _ _ _ _ _ (units g c) in
    let size3 = put_length _ _ _ _ _ (previous g c) in
    record { is = c.set_raw-4.ensures.bytes; room = omega (arith, c.requires.whole, c.place-at.ensures.inside, size, size2, size3); fits = omega arith }

kind : (g : Over) (c : goal.After-set_raw-5 g) → IsPut (g.M.Mem.bytes_of c.set_raw-4.new.self) (g.M.Mem.bytes_of c.set_raw-5.new.self) (c.place-at.result + 12) 1 c.args.entry.kind
kind g c =
    let size = put_length _ _ _ _ _ (start g c) in
    let size2 = put_length _ _ _ _ _ (units g c) in
    let size3 = put_length _ _ _ _ _ (previous g c) in
    let size4 = put_length _ _ _ _ _ (next g c) in
    record { is = c.set_raw-5.ensures.bytes; room = omega (arith, c.requires.whole, c.place-at.ensures.inside, size, size2, size3, size4); fits = omega arith }

five : (g : Over) (c : goal.After-set_raw-5 g) → FivePut (g.M.Mem.bytes_of c.args.memory.now) (g.M.Mem.bytes_of c.set_raw.new.self)
    (g.M.Mem.bytes_of c.set_raw-2.new.self) (g.M.Mem.bytes_of c.set_raw-3.new.self) (g.M.Mem.bytes_of c.set_raw-4.new.self)
    (g.M.Mem.bytes_of c.set_raw-5.new.self) c.place-at.result c.args.entry
five g c = record { start = start g c; units = units g c; previous = previous g c; next = next g c; kind = kind g c }

pub returns-clause-nodes : goal.returns-clause-nodes
returns-clause-nodes g c =
    five_nodes _ _ _ _ _ _ c.args.number c.args.entry (rw (c.place-at.ensures.value) at (five g c))

pub returns-clause-beside : goal.returns-clause-beside
returns-clause-beside g c =
    beside_more _ _ _ _ _ _ (five_beside _ _ _ _ _ _ _ _ (five g c))
    (omega (arith, c.place-at.ensures.value)) (omega (arith, c.place-at.ensures.inside))

pub returns-clause-kept : goal.returns-clause-kept
returns-clause-kept g c =
    let p = five g c in
    keeps_both _ _ _ _ _ _ _ _ _ _ _ _
    (keeps_both _ _ _ _ _ _ _ _ _ _ _ _
    (keeps_both _ _ _ _ _ _ _ _ _ _ _ _
    (keeps_both _ _ _ _ _ _ _ _ _ _ _ _
    (keeps_one _ _ _ _ _ _ _ _ _ _ _ p.start.room p.start.is c.set_raw.ensures.marks c.set_raw.ensures.owner c.set_raw.ensures.stack)
    (keeps_one _ _ _ _ _ _ _ _ _ _ _ p.units.room p.units.is c.set_raw-2.ensures.marks c.set_raw-2.ensures.owner c.set_raw-2.ensures.stack))
    (keeps_one _ _ _ _ _ _ _ _ _ _ _ p.previous.room p.previous.is c.set_raw-3.ensures.marks c.set_raw-3.ensures.owner c.set_raw-3.ensures.stack))
    (keeps_one _ _ _ _ _ _ _ _ _ _ _ p.next.room p.next.is c.set_raw-4.ensures.marks c.set_raw-4.ensures.owner c.set_raw-4.ensures.stack))
    (keeps_one _ _ _ _ _ _ _ _ _ _ _ p.kind.room p.kind.is c.set_raw-5.ensures.marks c.set_raw-5.ensures.owner c.set_raw-5.ensures.stack)
