use Rattle.std.proofs.Common.{◌-◌, ℕ, ◌∙◌, ap, subst, arith}
use Rattle.vm_code.specs.Machine.{Config}
use Rattle.rank_machine.specs.View.{Tally, work_at}
use Rattle.rank_machine.specs.Runs.{Strands}
use Rattle.rank_machine.specs.Ran.{RanFrom}
use Rattle.rank_machine.proofs.GoLemmas.{never_strands, from_is, rank_of_parts}
use Rattle.rank_machine.proofs.machine.go_with.Goals as goal

pub work_on-requires-clause-alive : goal.work_on-requires-clause-alive
work_on-requires-clause-alive g c taken strands =
    let top = g.M.Mem.top_of c.args.m.now in
    let bytes = g.M.Mem.bytes_of c.args.m.now in
    let from = from_is c.args.code.now c.take_out.new.work c.args.at.now.place c.args.at.now.depth c.args.at.now.ticks (g.M.Mem.rank_of c.args.m.now) top bytes
    (c.take_out.ensures top ∙ ap (λ (p : ℕ). work_at p top bytes (c.args.at.now.depth - 1)) c.empty_work-work.ensures.place)
    (let some = c.if-at-eq0.false in omega (arith, some)) in
    never_strands c.args.code.now _ c.args.printer.now.printed taken c.requires.goes
    (subst (λ (f : Tally → Config). Strands c.args.code.now f c.args.printer.now.printed taken) from strands)

pub returns-clause-ran : goal.returns-clause-ran
returns-clause-ran g c =
    let top = g.M.Mem.top_of c.args.m.now in
    let bytes = g.M.Mem.bytes_of c.args.m.now in
    let from = from_is c.args.code.now c.take_out.new.work c.args.at.now.place c.args.at.now.depth c.args.at.now.ticks (g.M.Mem.rank_of c.args.m.now) top bytes
    (c.take_out.ensures top ∙ ap (λ (p : ℕ). work_at p top bytes (c.args.at.now.depth - 1)) c.empty_work-work.ensures.place)
    (let some = c.if-at-eq0.false in omega (arith, some)) in
    subst (λ (f : Tally → Config). RanFrom c.args.code.now f c.args.at.now.ticks c.args.printer.now.printed c.args.budget c.args.printer.now c.work_on.new.printer c.work_on.result
    (rank_of_parts c.work_on.new.at.place c.work_on.new.at.depth c.work_on.new.at.ticks (g.M.Mem.rank_of c.args.m.now) (g.M.Mem.top_of c.work_on.new.m) (g.M.Mem.bytes_of c.work_on.new.m)))
    from c.work_on.ensures.ran
