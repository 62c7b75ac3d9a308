use Rattle.std.proofs.Common.{arith}
use Rattle.rank_range.proofs.ChangeLemmas.{keeps_one, keeps_both}
use Rattle.isomalloc.proofs.Bytes.{IsPut, header_is, header_beside, put_length}
use Rattle.isomalloc.proofs.nodes.write_header.Given.{Over}
use Rattle.isomalloc.proofs.nodes.write_header.Goals as goal

first : (g : Over) (c : goal.After-set_raw-4 g) → IsPut (g.M.Mem.bytes_of c.args.memory.now) (g.M.Mem.bytes_of c.set_raw.new.self) 0 4 c.args.header.first
first g c = record { is = c.set_raw.ensures.bytes; room = omega (arith, c.requires); fits = omega arith }

unused : (g : Over) (c : goal.After-set_raw-4 g) → IsPut (g.M.Mem.bytes_of c.set_raw.new.self) (g.M.Mem.bytes_of c.set_raw-2.new.self) 4 4 c.args.header.unused
unused g c =
    let size = put_length _ _ _ _ _ (first g c) in
    record { is = c.set_raw-2.ensures.bytes; room = omega (arith, c.requires, size); fits = omega arith }

blocks : (g : Over) (c : goal.After-set_raw-4 g) → IsPut (g.M.Mem.bytes_of c.set_raw-2.new.self) (g.M.Mem.bytes_of c.set_raw-3.new.self) 8 4 c.args.header.blocks
blocks g c =
    let size = put_length _ _ _ _ _ (first g c) in
    let size2 = put_length _ _ _ _ _ (unused g c) in
    record { is = c.set_raw-3.ensures.bytes; room = omega (arith, c.requires, size, size2); fits = omega arith }

holes : (g : Over) (c : goal.After-set_raw-4 g) → IsPut (g.M.Mem.bytes_of c.set_raw-3.new.self) (g.M.Mem.bytes_of c.set_raw-4.new.self) 12 4 c.args.header.holes
holes g c =
    let size = put_length _ _ _ _ _ (first g c) in
    let size2 = put_length _ _ _ _ _ (unused g c) in
    let size3 = put_length _ _ _ _ _ (blocks g c) in
    record { is = c.set_raw-4.ensures.bytes; room = omega (arith, c.requires, size, size2, size3); fits = omega arith }

pub returns-clause-header : goal.returns-clause-header
returns-clause-header g c = header_is _ _ _ _ _ c.args.header (first g c) (unused g c) (blocks g c) (holes g c)

pub returns-clause-beside : goal.returns-clause-beside
returns-clause-beside g c = header_beside _ _ _ _ _ c.args.header (first g c) (unused g c) (blocks g c) (holes g c)

pub returns-clause-kept : goal.returns-clause-kept
returns-clause-kept g c =
    let p1 = first g c in
    let p2 = unused g c in
    let p3 = blocks g c in
    let p4 = holes g c in
    keeps_both _ _ _ _ _ _ _ _ _ _ _ _
    (keeps_both _ _ _ _ _ _ _ _ _ _ _ _
    (keeps_both _ _ _ _ _ _ _ _ _ _ _ _
    (keeps_one _ _ _ _ _ _ _ _ _ _ _ p1.room p1.is c.set_raw.ensures.marks c.set_raw.ensures.owner c.set_raw.ensures.stack)
    (keeps_one _ _ _ _ _ _ _ _ _ _ _ p2.room p2.is c.set_raw-2.ensures.marks c.set_raw-2.ensures.owner c.set_raw-2.ensures.stack))
    (keeps_one _ _ _ _ _ _ _ _ _ _ _ p3.room p3.is c.set_raw-3.ensures.marks c.set_raw-3.ensures.owner c.set_raw-3.ensures.stack))
    (keeps_one _ _ _ _ _ _ _ _ _ _ _ p4.room p4.is c.set_raw-4.ensures.marks c.set_raw-4.ensures.owner c.set_raw-4.ensures.stack)
