use Rattle.std.proofs.lemmas.Result.{on_ok_weaker}
use Rattle.codegen.proofs.Adding.{adds_given}
use Rattle.codegen.proofs.draft.Draft.put_given.Goals as goal

pub returns-in_ok-put_words-in-Old : goal.returns-in_ok-put_words-in-Old
returns-in_ok-put_words-in-Old c =
    on_ok_weaker c.put-in-Old.result (λ h. adds_given _ _ _ _ _ _ _ _ _ _ c.in-Old.is c.amount.ensures c.against.ensures c.counted_kind.ensures
    c.in_ok-put-in-Old.ensures c.in_ok-put_words-in-Old.ensures h) c.put-in-Old.ensures
