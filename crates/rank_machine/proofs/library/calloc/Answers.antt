use Rattle.std.proofs.Common.{arith, []}
use Rattle.rank_machine.proofs.LibraryLemmas.{does, calloc_does, no_text}
use Rattle.rank_machine.proofs.library.calloc.Goals as goal

pub returns-clause-done : goal.returns-clause-done
returns-clause-done g c =
    does _ _ _ c.take_product-value.result [] _ c.args.work.now _ _ _ _ _ _ _
    (calloc_does _ _ _ _ _ _ _ c.top-words.ensures c.argument.ensures c.argument-2.ensures c.take_product-value.ensures.value)
    c.take_product-value.ensures.frames c.requires.number (omega (arith, c.printed-printed.ensures.value, c.printed-printed.ensures.limit)) (no_text _) c.give_value.ensures
