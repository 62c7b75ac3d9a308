use Rattle.std.proofs.Common.{◌-◌, ◌%◌, ℕ, ◌∙◌, ap, arith}
use Rattle.rank_machine.specs.View.{work_at}
use Rattle.rank_machine.proofs.AnswerLemmas.{is_answered}
use Rattle.rank_machine.proofs.answers.answer.Goals as goal

pub returns-clause-answered : goal.returns-clause-answered
returns-clause-answered g c =
    let rank = g.M.Mem.rank_of c.args.m.now in
    let top = g.M.Mem.top_of c.args.m.now in
    let bytes = g.M.Mem.bytes_of c.args.m.now in
    let near = c.give.ensures.near in
    is_answered c.args.code.now c.take_out.new.work c.give.new.work c.args.st.now.position c.args.st.now.depth c.args.st.now.ticks rank top
    (c.give.new.work.place % 4294967296) (g.M.Mem.top_of c.put_back.new.memory) bytes (g.M.Mem.bytes_of c.put_back.new.memory) c.args.value
    (c.take_out.ensures top ∙ ap (λ (p : ℕ). work_at p top bytes (c.args.st.now.depth - 1)) c.empty_work-work.ensures.place)
    c.requires.some c.give.ensures.answered (omega (arith, near)) c.top-top.ensures.range.above (c.put_back.ensures.frame top) c.put_back.ensures.beside
    (c.put_back.ensures.memory rank top) c.put_back.ensures.stack
