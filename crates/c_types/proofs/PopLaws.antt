-- A list that loses its last element, of one that is cut.
use Rattle.std.proofs.Common.{ℕ, zero, suc, ◌≡◌, ◌+◌, ◌≤◌, ◌<◌, List, [], ◌∷◌, ◌++◌, length, take, Option, Some, None, refl, sym, ap, ◌∙◌, length-append, arith}
use Rattle.std.specs.Prelude.{MatchOption}
use Rattle.std.proofs.Math.Seq.{take-append_seam}

shorter : {T : Type 0} (m n : ℕ) (xs : List T) → m ≤ n → take m (take n xs) ≡ take m xs
shorter zero n xs le = refl
shorter (suc m) zero xs le = absurd (omega (arith, le))
shorter (suc m) (suc n) [] le = refl
shorter (suc m) (suc n) (x ∷ xs) le = ap (λ ys. x ∷ ys) (shorter m n xs (omega (arith, le)))

pub popped : {T : Type 0} (r : Option T) (old new whole : List T) (len : ℕ)
    → MatchOption r ((old ≡ []) × (new ≡ [])) (λ last. old ≡ new ++ last ∷ []) → old ≡ take (length old) whole → len < length old
    → (new ≡ take (length new) whole) × (len ≤ length new)
popped None old new whole len none is less = let e = ap length none.0 in absurd (omega (arith, e, less))
popped (Some last) old new whole len some is less =
    let size : length old ≡ length new + 1 = ap length some ∙ length-append new (last ∷ []) in (
      sym (take-append_seam new (last ∷ [])) ∙ ap (take (length new)) (sym some ∙ is) ∙ shorter (length new) (length old) whole (omega (arith, size)),
      omega (arith, size, less),
    )
