use Rattle.std.proofs.Common.{◌+◌, arith}
use Rattle.rank_range.proofs.ChangeLemmas.{keeps_one, keeps_both}
use Rattle.rank_machine.proofs.RecordLemmas.{Puts, HeadPut, puts_length, head_is, head_beside}
use Rattle.rank_machine.proofs.records.write_head.Given.{Over}
use Rattle.rank_machine.proofs.records.write_head.Goals as goal

one : (g : Over) (c : goal.After-set_raw-4 g) → Puts (g.M.Mem.bytes_of c.args.memory.now) (g.M.Mem.bytes_of c.set_raw.new.self) c.args.at c.args.head.back
one g c = record { is = c.set_raw.ensures.bytes; room = omega (arith, c.requires.whole, c.requires.inside); fits = omega arith }

two : (g : Over) (c : goal.After-set_raw-4 g) → Puts (g.M.Mem.bytes_of c.set_raw.new.self) (g.M.Mem.bytes_of c.set_raw-2.new.self) (c.args.at + 8) c.args.head.start
two g c =
    let size = puts_length _ _ _ _ (one g c) in
    record { is = c.set_raw-2.ensures.bytes; room = omega (arith, c.requires.whole, c.requires.inside, size); fits = omega arith }

three : (g : Over) (c : goal.After-set_raw-4 g) → Puts (g.M.Mem.bytes_of c.set_raw-2.new.self) (g.M.Mem.bytes_of c.set_raw-3.new.self) (c.args.at + 16) c.args.head.finish
three g c =
    let size = puts_length _ _ _ _ (one g c) in
    let size2 = puts_length _ _ _ _ (two g c) in
    record { is = c.set_raw-3.ensures.bytes; room = omega (arith, c.requires.whole, c.requires.inside, size, size2); fits = omega arith }

four : (g : Over) (c : goal.After-set_raw-4 g) → Puts (g.M.Mem.bytes_of c.set_raw-3.new.self) (g.M.Mem.bytes_of c.set_raw-4.new.self) (c.args.at + 24) c.args.head.count
four g c =
    let size = puts_length _ _ _ _ (one g c) in
    let size2 = puts_length _ _ _ _ (two g c) in
    let size3 = puts_length _ _ _ _ (three g c) in
    record { is = c.set_raw-4.ensures.bytes; room = omega (arith, c.requires.whole, c.requires.inside, size, size2, size3); fits = omega arith }

put : (g : Over) (c : goal.After-set_raw-4 g) → HeadPut (g.M.Mem.bytes_of c.args.memory.now) (g.M.Mem.bytes_of c.set_raw.new.self) (g.M.Mem.bytes_of c.set_raw-2.new.self)
    (g.M.Mem.bytes_of c.set_raw-3.new.self) (g.M.Mem.bytes_of c.set_raw-4.new.self) c.args.at c.args.head
put g c = record { back = one g c; start = two g c; finish = three g c; count = four g c }

pub returns-clause-head : goal.returns-clause-head
returns-clause-head g c = head_is _ _ _ _ _ c.args.at c.args.head (put g c)

pub returns-clause-beside : goal.returns-clause-beside
returns-clause-beside g c = head_beside _ _ _ _ _ c.args.at c.args.head (put g c)

pub returns-clause-kept : goal.returns-clause-kept
returns-clause-kept g c =
    let p = put g c in
    keeps_both _ _ _ _ _ _ _ _ _ _ _ _
    (keeps_both _ _ _ _ _ _ _ _ _ _ _ _
    (keeps_both _ _ _ _ _ _ _ _ _ _ _ _
    (keeps_one _ _ _ _ _ _ _ _ _ _ _ p.back.room p.back.is c.set_raw.ensures.marks c.set_raw.ensures.owner c.set_raw.ensures.stack)
    (keeps_one _ _ _ _ _ _ _ _ _ _ _ p.start.room p.start.is c.set_raw-2.ensures.marks c.set_raw-2.ensures.owner c.set_raw-2.ensures.stack))
    (keeps_one _ _ _ _ _ _ _ _ _ _ _ p.finish.room p.finish.is c.set_raw-3.ensures.marks c.set_raw-3.ensures.owner c.set_raw-3.ensures.stack))
    (keeps_one _ _ _ _ _ _ _ _ _ _ _ p.count.room p.count.is c.set_raw-4.ensures.marks c.set_raw-4.ensures.owner c.set_raw-4.ensures.stack)
