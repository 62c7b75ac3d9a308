use Rattle.std.proofs.Common.{◌≡◌, ℕ, List, ◌-◌, rules, ap, ◌∙◌, arith, to_z, of_z, w32}
use Rattle.std.specs.Prelude.{ℤ}
use Rattle.rank_range.specs.Layout.{stack_start}
use Rattle.rank_range.specs.Kinds.{value_of}
use Rattle.rank_range.specs.declared.kinds.Kind.TheVariants.{Int}
use Rattle.vm_code.specs.Stops.{Ended}
use Rattle.rank_machine.specs.View.{done_of}
use Rattle.rank_machine.specs.Steps.{Halted}
use Rattle.rank_machine.proofs.CallLemmas.{leave_lost, leave_main, leave_caller, with_given, halt_given}
use Rattle.rank_machine.proofs.calls.leave.Goals as goal

pub returns-in_default-clause-step : goal.returns-in_default-clause-step
returns-in_default-clause-step g c code tally = leave_lost code c.args.work.now _ _ _ tally c.in_default.ensures.taken

pub returns-then-work-eq0-clause-step : goal.returns-then-work-eq0-clause-step
returns-then-work-eq0-clause-step g c code tally =
    let rank = g.M.Mem.rank_of c.args.memory.now in
    let new_top = g.M.Mem.top_of c.set_top.new.self in
    let new_bytes = g.M.Mem.bytes_of c.set_top.new.self in
    let e : to_z w32 (of_z w32 c.int_of.result) ≡ c.int_of.result = search rules in
    ap (λ (z : ℤ). Halted (Ended z) (done_of rank new_top new_bytes tally)) (e ∙ c.int_of.ensures)
    ∙ ap (λ (t : ℕ). Halted (Ended (value_of Int c.in-Some.word)) (done_of rank t new_bytes tally)) c.set_top.ensures.stack
    ∙ ap (λ (b : List ℕ). Halted (Ended (value_of Int c.in-Some.word)) (done_of rank stack_start b tally)) c.set_top.ensures.bytes
    ∙ leave_main code c.args.work.now rank _ c.in-Some.word _ _ tally c.in-Some.ensures.taken c.if-work-eq0.true c.top-top.ensures.range.above

pub returns-clause-step : goal.returns-clause-step
returns-clause-step g c code tally =
    leave_caller code c.args.work.now c.give_result.new.work _ _ _ c.in-Some.word (c.args.work.now.number - 1) c.pop.new.self _ _ tally c.give_result.result
    c.in-Some.ensures.taken (let some = c.if-work-eq0.false in omega (arith, some)) c.go_back.ensures.bytes c.go_back.ensures.stack c.go_back.ensures.memory
    (c.give_result.ensures.fits ∙ ap (halt_given c.in-Some.word) c.go_back.ensures.work)
    (c.give_result.ensures.work ∙ ap (with_given c.in-Some.word) c.go_back.ensures.work)
