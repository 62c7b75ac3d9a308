use Rattle.std.proofs.lemmas.Result.{on_ok_weaker}
use Rattle.codegen.proofs.Adding.{adds_then, adds_back}
use Rattle.codegen.proofs.draft.Draft.end_offset.Goals as goal

pub returns-in_ok-put_scaled-in-PointerPlusNumber : goal.returns-in_ok-put_scaled-in-PointerPlusNumber
returns-in_ok-put_scaled-in-PointerPlusNumber c =
    on_ok_weaker c.put_words.result (λ h. adds_back _ _ _ _ _ c.in-PointerPlusNumber.is (adds_then _ _ _ _ _ c.in_ok-put_scaled-in-PointerPlusNumber.ensures h))
    c.put_words.ensures

pub returns-in_ok-put_scaled-in-PointerMinusNumber : goal.returns-in_ok-put_scaled-in-PointerMinusNumber
returns-in_ok-put_scaled-in-PointerMinusNumber c =
    on_ok_weaker c.put_words-in-PointerMinusNumber.result (λ h. adds_back _ _ _ _ _ c.in-PointerMinusNumber.is
    (adds_then _ _ _ _ _ c.in_ok-put_scaled-in-PointerMinusNumber.ensures h)) c.put_words-in-PointerMinusNumber.ensures
