use Rattle.std.proofs.lemmas.Result.{on_ok_weaker}
use Rattle.codegen.proofs.Adding.{adds_advance}
use Rattle.codegen.proofs.draft.Draft.end_advance.Goals as goal

pub returns : goal.returns
returns c =
    on_ok_weaker c.put.result (λ h. adds_advance _ _ _ _ _ _ _ _ c.moving.ensures c.in_ok-put_scaled.ensures c.in_ok-put_words.ensures h) c.put.ensures
