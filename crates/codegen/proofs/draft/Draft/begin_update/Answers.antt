use Rattle.std.proofs.lemmas.Result.{on_ok_weaker}
use Rattle.codegen.proofs.Adding.{adds_then}
use Rattle.codegen.proofs.draft.Draft.begin_update.Goals as goal

pub returns : goal.returns
returns c =
    on_ok_weaker c.put_converted.result (λ h. adds_then _ _ _ _ _ c.in_ok-put.ensures (adds_then _ _ _ _ _ c.in_ok-put-2.ensures h)) c.put_converted.ensures
