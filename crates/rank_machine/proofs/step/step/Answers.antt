use Rattle.std.proofs.Common.{◌≡◌, Some, false, true, rules, refl, sym, subst}
use Rattle.vm_code.specs.declared.instr.Instr.{Instr}
use Rattle.vm_code.specs.declared.instr.Instr.TheVariants.{Tick, Call}
use Rattle.vm_code.specs.Bounded.{is_tick}
use Rattle.rank_machine.specs.Steps.{Advanced}
use Rattle.rank_machine.proofs.StepLemmas.{quietly}
use Rattle.rank_machine.proofs.step.step.Goals as goal

pub returns-in-Tick-clause-moved : goal.returns-in-Tick-clause-moved
returns-in-Tick-clause-moved g c =
    subst (λ (i : Instr). Advanced c.args.code.now i c.tick.result c.args.work.now c.tick.new.work (g.M.Mem.rank_of c.args.memory.now)
    (g.M.Mem.top_of c.args.memory.now) (g.M.Mem.top_of c.args.memory.now) (g.M.Mem.bytes_of c.args.memory.now) (g.M.Mem.bytes_of c.args.memory.now) c.args.printer.now c.args.printer.now) (sym c.in-Tick.is)
    (quietly c.args.code.now (Tick c.in-Tick.unit c.in-Tick.line) c.tick.result c.args.work.now c.tick.new.work (g.M.Mem.rank_of c.args.memory.now)
    (g.M.Mem.top_of c.args.memory.now) (g.M.Mem.top_of c.args.memory.now) (g.M.Mem.bytes_of c.args.memory.now) (g.M.Mem.bytes_of c.args.memory.now) c.args.printer.now
    true refl (λ tally. c.tick.ensures c.args.code.now c.in-Tick.unit c.in-Tick.line _ _ _ tally))

pub returns-in-Call-clause-moved : goal.returns-in-Call-clause-moved
returns-in-Call-clause-moved g c =
    subst (λ (i : Instr). Advanced c.args.code.now i c.call.result c.args.work.now c.call.new.work (g.M.Mem.rank_of c.args.memory.now)
    (g.M.Mem.top_of c.args.memory.now) (g.M.Mem.top_of c.call.new.memory) (g.M.Mem.bytes_of c.args.memory.now) (g.M.Mem.bytes_of c.call.new.memory) c.args.printer.now c.args.printer.now) (sym c.in-Call.is)
    (quietly c.args.code.now (Call c.in-Call.function c.in-Call.arguments) c.call.result c.args.work.now c.call.new.work (g.M.Mem.rank_of c.args.memory.now)
    (g.M.Mem.top_of c.args.memory.now) (g.M.Mem.top_of c.call.new.memory) (g.M.Mem.bytes_of c.args.memory.now) (g.M.Mem.bytes_of c.call.new.memory) c.args.printer.now
    true refl c.call.ensures.step)

pub returns-in_default : goal.returns-in_default
returns-in_default g c =
    let between : is_tick (Some c.args.instr) ≡ false = search rules in
    record {
      moved = quietly c.args.code.now c.args.instr c.step_between.result c.args.work.now c.step_between.new.work (g.M.Mem.rank_of c.args.memory.now)
          (g.M.Mem.top_of c.args.memory.now) (g.M.Mem.top_of c.step_between.new.memory) (g.M.Mem.bytes_of c.args.memory.now) (g.M.Mem.bytes_of c.step_between.new.memory)
          c.args.printer.now false between (λ tally. c.step_between.ensures.step c.args.code.now tally);
      work = tt;
      memory = tt;
      frames = tt;
      stack = tt;
      quiet = tt;
      tick = tt;
      kept = c.step_between.ensures.kept;
    }
