use Rattle.std.proofs.lemmas.Result.{on_ok_weaker}
use Rattle.codegen.proofs.Adding.{adds_then}
use Rattle.codegen.proofs.draft.Draft.put_converted.Goals as goal

pub returns : goal.returns
returns c = on_ok_weaker c.put-2.result (λ h. adds_then _ _ _ _ _ c.in_ok-put.ensures h) c.put-2.ensures
