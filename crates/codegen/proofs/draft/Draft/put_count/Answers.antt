use Rattle.std.proofs.lemmas.Result.{on_ok_weaker}
use Rattle.codegen.proofs.Adding.{adds_count}
use Rattle.codegen.proofs.draft.Draft.put_count.Goals as goal

pub returns : goal.returns
returns c =
    on_ok_weaker c.put_given.result (λ h. adds_count _ _ _ _ _ _ _ _ _ _ _ _ _ _ c.amount.ensures c.moving.ensures c.counted_kind-kind.ensures
    c.in_ok-put.ensures c.in_ok-put-2.ensures c.in_ok-put-3.ensures c.in_ok-put_words.ensures c.in_ok-put-4.ensures c.in_ok-put-5.ensures h) c.put_given.ensures
