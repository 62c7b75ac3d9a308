-- Copies that are looked up and put.
use Rattle.std.proofs.Common.{◌≡◌, ◌∙◌, ◌+◌, ◌<◌, ◌≤◌, ℕ, zero, suc, Bool, true, false, ◌==◌, nat_lt, List, [], ◌∷◌, ◌++◌, length, get_or, set, Option, Some, None, refl, sym, ap, inl, inr, arith}
use Rattle.std.specs.Prelude.{slice_get}
use Rattle.std.proofs.lemmas.Bool.{cases_Bool}
use Rattle.std.proofs.lemmas.Bool.Decides.{nat_tests}
use Rattle.buddy_ckpt.specs.declared.store.Copy.{Copy}
use Rattle.buddy_ckpt.specs.Copies.{with_copy, place_in, image_of, is_there}

-- a copy that is put in the place of that of its rank
pub put_there : (c : Copy) (r : ℕ) (xs : List Copy) (k : ℕ) → c.rank.0 ≡ r → k ≡ place_in r xs → k < length xs → set xs k c ≡ with_copy c xs
put_there c r [] k own is inside = absurd (omega (arith, inside))
put_there c r (x ∷ xs) zero own is inside = elim (cases_Bool (x.rank.0 == r)) [
  | inl e ↦ let same : (x.rank.0 == c.rank.0) ≡ true = ap (λ n. x.rank.0 == n) own ∙ e in rw same refl
  | inr e ↦ let never : zero ≡ place_in r xs + 1 = is ∙ rw e refl in absurd (omega (arith, never))
]
put_there c r (x ∷ xs) (suc k) own is inside = elim (cases_Bool (x.rank.0 == r)) [
  | inl e ↦ let never : suc k ≡ 0 = is ∙ rw e refl in absurd (omega (arith, never))
  | inr e ↦
      let other : (x.rank.0 == c.rank.0) ≡ false = ap (λ n. x.rank.0 == n) own ∙ e in
      let more : suc k ≡ place_in r xs + 1 = is ∙ rw e refl in
      rw other (ap (λ ys. x ∷ ys) (put_there c r xs k own (omega (arith, more)) (omega (arith, inside))))
]

-- a copy of a rank that has none
pub put_behind : (c : Copy) (r : ℕ) (xs : List Copy) → c.rank.0 ≡ r → length xs ≤ place_in r xs → with_copy c xs ≡ xs ++ c ∷ []
put_behind c r [] own out = refl
put_behind c r (x ∷ xs) own out = elim (cases_Bool (x.rank.0 == r)) [
  | inl e ↦ let first : place_in r (x ∷ xs) ≡ 0 = rw e refl in absurd (omega (arith, out, first))
  | inr e ↦
      let other : (x.rank.0 == c.rank.0) ≡ false = ap (λ n. x.rank.0 == n) own ∙ e in
      let more : place_in r (x ∷ xs) ≡ place_in r xs + 1 = rw e refl in
      rw other (ap (λ ys. x ∷ ys) (put_behind c r xs own (omega (arith, out, more))))
]

-- whether there is a copy, and its image
pub there_is : (r : ℕ) (xs : List Copy) → nat_lt (place_in r xs) (length xs) ≡ is_there (image_of r xs)
there_is r [] = grind (arith, nat_tests)
there_is r (x ∷ xs) = elim (cases_Bool (x.rank.0 == r)) [
  | inl e ↦ rw e (grind (arith, nat_tests))
  | inr e ↦ rw e (step (place_in r xs) (length xs) ∙ there_is r xs)
]
  where
    step : (a b : ℕ) → nat_lt (a + 1) (suc b) ≡ nat_lt a b
    step a b = grind (arith, nat_tests)

pub image_at : (r : ℕ) (xs : List Copy) (k : ℕ) (x : Copy) → k ≡ place_in r xs → k < length xs → x ≡ get_or xs k x → image_of r xs ≡ Some x.image
image_at r [] k x is inside got = absurd (omega (arith, inside))
image_at r (y ∷ ys) zero x is inside got = elim (cases_Bool (y.rank.0 == r)) [
  | inl e ↦ rw e (ap (λ (z : Copy). Some z.image) (sym got))
  | inr e ↦ let never : zero ≡ place_in r ys + 1 = is ∙ rw e refl in absurd (omega (arith, never))
]
image_at r (y ∷ ys) (suc k) x is inside got = elim (cases_Bool (y.rank.0 == r)) [
  | inl e ↦ let never : suc k ≡ 0 = is ∙ rw e refl in absurd (omega (arith, never))
  | inr e ↦
      let more : suc k ≡ place_in r ys + 1 = is ∙ rw e refl in
      rw e (image_at r ys k x (omega (arith, more)) (omega (arith, inside)) got)
]

pub no_image : (r : ℕ) (xs : List Copy) → length xs ≤ place_in r xs → image_of r xs ≡ None
no_image r [] out = refl
no_image r (x ∷ xs) out = elim (cases_Bool (x.rank.0 == r)) [
  | inl e ↦ let first : place_in r (x ∷ xs) ≡ 0 = rw e refl in absurd (omega (arith, out, first))
  | inr e ↦ let more : place_in r (x ∷ xs) ≡ place_in r xs + 1 = rw e refl in rw e (no_image r xs (omega (arith, out, more)))
]
