use Rattle.std.proofs.Common.{ℕ, List, sym, ap, subst, ◌∙◌, arith}
use Rattle.vm_code.specs.Library.{Fails, library_does}
use Rattle.rank_range.specs.Areas.{memory_of}
use Rattle.std.proofs.Common.{Err}
use Rattle.rank_range.specs.declared.run.LibStop.{LibStop}
use Rattle.rank_machine.specs.Steps.{Tells}
use Rattle.rank_machine.proofs.LibraryLemmas.{does, fails, too_long}
use Rattle.rank_machine.proofs.library.other_call.Goals as goal

pub returns-then-len-printed-clause-done : goal.returns-then-len-printed-clause-done
returns-then-len-printed-clause-done g c =
    let m = memory_of (g.M.Mem.rank_of c.args.memory.now) (g.M.Mem.top_of c.args.memory.now) (g.M.Mem.bytes_of c.args.memory.now) in
    let long = c.if-len-printed.true in
    too_long _ _ _ c.in-Ok.out.value c.in-Ok.out.text c.args.work.now _ _ _ _ _
    (ap (λ (ws : List ℕ). library_does c.args.call ws m) (sym c.top.ensures) ∙ c.in-Ok.ensures.done)
    (c.in-Ok.ensures.quiet (omega (arith, long, c.len.ensures)))
    (omega (arith, long, c.len.ensures, c.printed.ensures.value, c.printed.ensures.limit))

pub returns-in_ok-say-in-Ok-clause-done : goal.returns-in_ok-say-in-Ok-clause-done
returns-in_ok-say-in-Ok-clause-done g c =
    let m = memory_of (g.M.Mem.rank_of c.args.memory.now) (g.M.Mem.top_of c.args.memory.now) (g.M.Mem.bytes_of c.args.memory.now) in
    let short = c.if-len-printed.false in
    does _ _ _ c.in-Ok.out.value c.in-Ok.out.text _ c.args.work.now _ _ _ _ _ _ _
    (ap (λ (ws : List ℕ). library_does c.args.call ws m) (sym c.top.ensures) ∙ c.in-Ok.ensures.done)
    c.made.ensures.frames c.requires.number (omega (arith, short, c.len.ensures, c.printed.ensures.value, c.printed.ensures.limit))
    c.in_ok-say-in-Ok.ensures.ok c.give_value.ensures

pub returns-in-Err-Trap-clause-done : goal.returns-in-Err-Trap-clause-done
returns-in-Err-Trap-clause-done g c =
    let new = memory_of (g.M.Mem.rank_of c.args.memory.now) (g.M.Mem.top_of c.args.memory.now) (g.M.Mem.bytes_of c.made.new.memory) in
    let m = memory_of (g.M.Mem.rank_of c.args.memory.now) (g.M.Mem.top_of c.args.memory.now) (g.M.Mem.bytes_of c.args.memory.now) in
    fails _ _ _ _ c.args.work.now _ _ _ _ _
    (ap (λ (ws : List ℕ). library_does c.args.call ws m) (sym c.top.ensures)
    ∙ subst (λ (f : LibStop). Tells (library_does c.args.call c.top.result.now m) new (Err f)) c.in-Err-Trap.field-0-is c.in-Err-Trap.ensures.done
    ∙ ap Fails (sym c.in-Err-Trap.cause-is))
    (ap (memory_of (g.M.Mem.rank_of c.args.memory.now) (g.M.Mem.top_of c.args.memory.now)) c.in-Err-Trap.ensures.same)
