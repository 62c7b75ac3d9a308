use Rattle.std.proofs.Common.{ap, arith, []}
use Rattle.rank_range.specs.Areas.{memory_of}
use Rattle.rank_machine.proofs.LibraryLemmas.{does, fails, free_does, no_text}
use Rattle.rank_machine.proofs.library.free.Goals as goal

pub returns-in-Ok-clause-done : goal.returns-in-Ok-clause-done
returns-in-Ok-clause-done g c =
    does _ _ _ 0 [] _ c.args.work.now _ _ _ _ _ _ _
    (free_does _ _ _ _ _ c.top.ensures c.argument-address.ensures c.in-Ok.ensures.value)
    c.give_back.ensures.frames c.requires.number (omega (arith, c.printed-printed.ensures.value, c.printed-printed.ensures.limit)) (no_text _) c.give_value.ensures

pub returns-in-Err-clause-done : goal.returns-in-Err-clause-done
returns-in-Err-clause-done g c =
    fails _ _ _ _ c.args.work.now _ _ _ _ _
    (free_does _ _ _ _ _ c.top.ensures c.argument-address.ensures c.in-Err.ensures.value)
    (ap (memory_of (g.M.Mem.rank_of c.args.memory.now) (g.M.Mem.top_of c.args.memory.now)) c.in-Err.ensures.same)
