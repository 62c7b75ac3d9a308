use Rattle.std.proofs.Common.{refl}
use Rattle.std.proofs.lemmas.Result.{on_ok_weaker}
use Rattle.codegen.proofs.Adding.{adds_truths}
use Rattle.codegen.proofs.draft.Draft.put_truths.Goals as goal

pub returns : goal.returns
returns c =
    on_ok_weaker c.put-4.result (λ h. adds_truths _ _ _ _ _ _ _ _ _ _ _ (c.ahead-decided.ensures 3 refl) (c.ahead-end.ensures 2 refl) c.jump_where.ensures c.truth.ensures
    c.truth-2.ensures c.in_ok-put.ensures c.in_ok-put-2.ensures c.in_ok-put-3.ensures h) c.put-4.ensures
