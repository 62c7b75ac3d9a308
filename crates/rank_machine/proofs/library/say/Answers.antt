use Rattle.std.proofs.Common.{refl}
use Rattle.rank_machine.proofs.LibraryLemmas.{no_text_is}
use Rattle.rank_machine.proofs.library.say.Goals as goal

pub returns-then-is_empty-clause-ok : goal.returns-then-is_empty-clause-ok
returns-then-is_empty-clause-ok c = no_text_is _ _ (c.if-is_empty.ensures.0 refl)
