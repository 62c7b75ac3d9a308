use Rattle.std.proofs.Common.{arith, []}
use Rattle.rank_machine.proofs.LibraryLemmas.{does, malloc_does, no_text}
use Rattle.rank_machine.proofs.library.malloc.Goals as goal

pub returns-clause-done : goal.returns-clause-done
returns-clause-done g c =
    does _ _ _ c.take_size-value.result [] _ c.args.work.now _ _ _ _ _ _ _
    (malloc_does _ _ _ _ _ _ c.top.ensures c.argument-size.ensures c.take_size-value.ensures.value)
    c.take_size-value.ensures.frames c.requires.number (omega (arith, c.printed-printed.ensures.value, c.printed-printed.ensures.limit)) (no_text _) c.give_value.ensures
