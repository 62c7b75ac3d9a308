use Rattle.std.proofs.Common.{is_some}
use Rattle.c_stores.specs.Lists.{finished, text_for}
use Rattle.c_stores.proofs.StateLemmas.{gives_then}
use Rattle.c_stores.proofs.lists.whole_value.Goals as goal

pub returns-in-Ok : goal.returns-in-Ok
returns-in-Ok c =
    gives_then _ _ _ _ _ (finished (is_some (text_for c.args.of c.args.e.now)) c.args.of)
    c.in-Ok.ensures
    (rw c.is_text_for-is_text.ensures at c.finished.ensures)
