use Rattle.std.proofs.lemmas.Result.{on_ok_weaker}
use Rattle.codegen.proofs.Adding.{adds_then}
use Rattle.codegen.proofs.draft.Draft.put_scaled.Goals as goal

pub returns : goal.returns
returns c = on_ok_weaker c.put_words.result (λ h. adds_then _ _ _ _ _ c.in_ok-put.ensures h) c.put_words.ensures
