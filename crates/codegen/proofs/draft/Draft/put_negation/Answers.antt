use Rattle.std.proofs.Common.{refl}
use Rattle.std.proofs.lemmas.Result.{on_ok_weaker}
use Rattle.codegen.proofs.Adding.{adds_negation}
use Rattle.codegen.proofs.draft.Draft.put_negation.Goals as goal

pub returns : goal.returns
returns c =
    on_ok_weaker c.put-4.result (λ h. adds_negation _ _ _ _ _ _ _ (c.ahead-one.ensures 3 refl) (c.ahead-end.ensures 2 refl) c.in_ok-put.ensures c.in_ok-put-2.ensures
    c.in_ok-put-3.ensures h) c.put-4.ensures
