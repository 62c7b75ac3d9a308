use Rattle.std.proofs.Common.{◌+◌, ◌∙◌, ℕ, refl, sym, ap, subst, length, arith, drop}
use Rattle.rank_range.specs.Numbers.{number_at}
use Rattle.rank_range.specs.Parts.{StayBeside}
use Rattle.rank_range.proofs.ChangeLemmas.{keeps_both}
use Rattle.rank_machine.specs.declared.records.Head.{Head}
use Rattle.rank_machine.specs.View.{record_place, in_stack, frame_at}
use Rattle.rank_machine.proofs.MemoryLemmas.{memory_beside}
use Rattle.rank_machine.proofs.FrameLemmas.{frame_with}
use Rattle.rank_machine.proofs.RecordLemmas.{record_is, record_finish, record_beside, kept_record}
use Rattle.rank_machine.proofs.records.put_back.Given.{Over}
use Rattle.rank_machine.proofs.records.put_back.Goals as goal

pub write_head-requires-clause-inside : goal.write_head-requires-clause-inside
write_head-requires-clause-inside g c = omega (arith, c.record_place-at.ensures, c.requires.number)

pub write_words-requires-clause-whole : goal.write_words-requires-clause-whole
write_words-requires-clause-whole g c = c.write_head.ensures.kept.whole ∙ c.top-finish.ensures.range.whole

pub returns-clause-frame : goal.returns-clause-frame
returns-clause-frame g c limit =
    let head : Head = record { back = c.args.work.now.back; start = c.args.work.now.start; finish = c.top-finish.result; count = length c.below-words.result.now } in
    let new = g.M.Mem.bytes_of c.write_words.new.memory in
    ap (frame_at new limit) (sym c.record_place-at.ensures)
    ∙ record_is (g.M.Mem.bytes_of c.args.memory.now) (g.M.Mem.bytes_of c.write_head.new.memory) new c.record_place-at.result limit head
    c.below-words.result.now (drop c.args.taken c.args.work.now.operands) c.write_head.ensures.head c.write_words.ensures.beside c.write_words.ensures.words
    refl c.below-words.ensures.few c.below-words.ensures.words
    ∙ ap (λ (top : ℕ). frame_with c.args.work.now.back c.args.work.now.start (in_stack limit top) (drop c.args.taken c.args.work.now.operands)) c.top-finish.ensures.value

pub returns-clause-finish : goal.returns-clause-finish
returns-clause-finish g c =
    let head : Head = record { back = c.args.work.now.back; start = c.args.work.now.start; finish = c.top-finish.result; count = length c.below-words.result.now } in
    let new = g.M.Mem.bytes_of c.write_words.new.memory in
    ap (λ (at : ℕ). number_at new (at + 16) 8) (sym c.record_place-at.ensures)
    ∙ record_finish (g.M.Mem.bytes_of c.write_head.new.memory) new c.record_place-at.result head c.write_head.ensures.head c.write_words.ensures.beside
    ∙ c.top-finish.ensures.value

beside : (g : Over) (c : goal.After-write_words g) → StayBeside (g.M.Mem.bytes_of c.args.memory.now) (g.M.Mem.bytes_of c.write_words.new.memory)
    (record_place c.args.work.now.number) (record_place c.args.work.now.number + 288)
beside g c =
    let old = g.M.Mem.bytes_of c.args.memory.now in
    let new = g.M.Mem.bytes_of c.write_words.new.memory in
    subst (λ (at : ℕ). StayBeside old new at (at + 288)) c.record_place-at.ensures
    (record_beside old (g.M.Mem.bytes_of c.write_head.new.memory) new c.record_place-at.result c.write_head.ensures.beside c.write_words.ensures.beside)

pub returns-clause-beside : goal.returns-clause-beside
returns-clause-beside g c = beside g c

pub returns-clause-memory : goal.returns-clause-memory
returns-clause-memory g c rank top =
    memory_beside rank top c.args.work.now.number _ _ c.requires.number (c.write_words.ensures.kept.whole ∙ c.write_head.ensures.kept.whole) (beside g c)

pub returns-clause-kept : goal.returns-clause-kept
returns-clause-kept g c =
    kept_record _ _ _ _ c.args.work.now.number _ _ _ _ c.requires.number
    (keeps_both _ _ _ _ _ _ _ _ _ _ _ _ c.write_head.ensures.kept c.write_words.ensures.kept) (beside g c)
