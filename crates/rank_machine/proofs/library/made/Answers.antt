use Rattle.std.proofs.Common.{ap, length, arith}
use Rattle.rank_machine.proofs.LibraryLemmas.{padded_is, tells_by, three_taken}
use Rattle.rank_machine.proofs.library.made.Goals as goal

pub returns-clause-done : goal.returns-clause-done
returns-clause-done g c =
    tells_by _ _ _ c.made_of-2.result
    (padded_is c.args.call c.args.words.now _ _ c.requires
    (let few = c.if-words-wanted.false in let size = ap length c.parameters-wanted.ensures in omega (arith, few, size))
    (three_taken _ _ _ _ _ _ _ _ (ap length c.parameters-wanted.ensures) c.argument.ensures c.argument-2.ensures c.argument-3.ensures))
    c.made_of-2.ensures.done
