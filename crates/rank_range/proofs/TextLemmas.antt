-- A text ends at the first zero.
use Rattle.std.proofs.Common.{◌≡◌, ◌≢◌, ℕ, suc, ◌+◌, ◌≤◌, ◌⊎◌, ◌∙◌, inl, inr, List, [], ◌∷◌, ◌++◌, length, take, refl, sym, ap, subst, arith, Option, Some, None}
use Rattle.std.specs.Prelude.{if◌then◌else◌, option_map, get_or}
use Rattle.std.specs.List.{AllByRecursion}
use Rattle.std.proofs.lemmas.Bool.{le-leb, cases_lt, lt-leb}
use Rattle.std.proofs.lemmas.Bool.Decides.{eqb_tells}
use Rattle.std.proofs.lemmas.Option.{none-some}
use Rattle.rank_range.specs.Areas.{bytes_from, bytes_at, text_at, before_zero, IsTextAt, AreTexts}

-- the text, a zero behind it, and no other zero
record EndsAtZero (xs text : List ℕ) : Type 0 where
  long : length text + 1 ≤ length xs
  first : take (length text + 1) xs ≡ text ++ 0 ∷ []
  none : AllByRecursion (λ b. b ≢ 0) text

abbrev value_or : List ℕ → Option (List ℕ) → List ℕ
value_or none None = none
value_or none (Some x) = x

some_injective : (a b : List ℕ) → Some a ≡ Some b → a ≡ b
some_injective a b e = ap (value_or a) e

option_is : {A : Type 0} (o : Option A) → (o ≡ None) ⊎ ((x : A) × (o ≡ Some x))
option_is None = inl refl
option_is (Some x) = inr (x, refl)

abbrev tail_of : List ℕ → List ℕ
tail_of [] = []
tail_of (x ∷ xs) = xs

ends_more : (b : ℕ) (bs rest : List ℕ) → b ≢ 0 → EndsAtZero bs rest → EndsAtZero (b ∷ bs) (b ∷ rest)
ends_more b bs rest some ends =
    let long = ends.long in
    let count : length (b ∷ rest) + 1 ≡ suc (length rest + 1) = omega arith in
    record {
      long = omega (arith, long);
      first = ap (λ (k : ℕ). take k (b ∷ bs)) count ∙ ap (λ (ys : List ℕ). b ∷ ys) ends.first;
      none = (some, ends.none);
    }

gives : (xs text : List ℕ) → before_zero xs ≡ Some text → EndsAtZero xs text
gives [] text is = absurd (none-some text is)
gives (b ∷ bs) text is =
    let more = option_map (λ rest. b ∷ rest) (before_zero bs) in
    elim (eqb_tells b 0) [
      | inl t ↦
          let none : [] ≡ text = some_injective [] text (sym (ap (λ q. if q then Some [] else more) t.0) ∙ is) in
          let here : EndsAtZero (b ∷ bs) [] =
          record { long = omega arith; first = ap (λ (c : ℕ). c ∷ []) t.1; none = tt } in
          subst (EndsAtZero (b ∷ bs)) none here
      | inr f ↦
          let e : more ≡ Some text = sym (ap (λ q. if q then Some [] else more) f.0) ∙ is in
          elim (option_is (before_zero bs)) [
            | inl n ↦ absurd (none-some text (sym (ap (option_map (λ rest. b ∷ rest)) n) ∙ e))
            | inr s ↦
                let same : b ∷ s.0 ≡ text = some_injective (b ∷ s.0) text (sym (ap (option_map (λ rest. b ∷ rest)) s.1) ∙ e) in
                subst (EndsAtZero (b ∷ bs)) same (ends_more b bs s.0 f.1 (gives bs s.0 s.1))
          ]
    ]

takes : (xs text : List ℕ) → EndsAtZero xs text → before_zero xs ≡ Some text
takes [] text ends = let long = ends.long in absurd (omega (arith, long))
takes (b ∷ bs) [] ends =
    let zero_is : b ≡ 0 = ap (λ (l : List ℕ). get_or l 0 0) ends.first in
    let more = option_map (λ rest. b ∷ rest) (before_zero bs) in
    elim (eqb_tells b 0) [
      | inl t ↦ ap (λ q. if q then Some [] else more) t.0
      | inr f ↦ absurd (f.1 zero_is)
    ]
takes (b ∷ bs) (c ∷ cs) ends =
    let count : suc (length cs + 1) ≡ length (c ∷ cs) + 1 = omega arith in
    let e : b ∷ take (length cs + 1) bs ≡ c ∷ (cs ++ 0 ∷ []) = ap (λ (k : ℕ). take k (b ∷ bs)) count ∙ ends.first in
    let head : b ≡ c = ap (λ (l : List ℕ). get_or l 0 0) e in
    let tail : take (length cs + 1) bs ≡ cs ++ 0 ∷ [] = ap tail_of e in
    let more = option_map (λ rest. b ∷ rest) (before_zero bs) in
    let long = ends.long in
    let rest : EndsAtZero bs cs = record { long = omega (arith, long); first = tail; none = ends.none.1 } in
    elim (eqb_tells b 0) [
      | inl t ↦ absurd (ends.none.0 (sym head ∙ t.1))
      | inr f ↦
          ap (λ q. if q then Some [] else more) f.0
          ∙ ap (option_map (λ rest. b ∷ rest)) (takes bs cs rest)
          ∙ ap (λ (x : ℕ). Some (x ∷ cs)) head
    ]

pub are_texts : AreTexts
unfolding text_at bytes_at
are_texts areas a text =
    let xs = bytes_from areas a in
    let n = length text + 1 in
    let there : before_zero xs ≡ Some text → IsTextAt areas a text =
    λ is.
    let ends = gives xs text is in
    (ap (λ t. if t then Some (take n xs) else None) (le-leb n (length xs) ends.long) ∙ ap Some ends.first, ends.none) in
    let back : IsTextAt areas a text → before_zero xs ≡ Some text =
    λ is.
    elim (cases_lt (length xs) n) [
      | inl less ↦ absurd (none-some (text ++ 0 ∷ []) (sym (ap (λ t. if t then Some (take n xs) else None) (lt-leb n (length xs) less)) ∙ is.0))
      | inr more ↦
          let first : take n xs ≡ text ++ 0 ∷ [] =
          some_injective (take n xs) (text ++ 0 ∷ []) (sym (ap (λ t. if t then Some (take n xs) else None) (le-leb n (length xs) more)) ∙ is.0) in
          takes xs text (record { long = more; first = first; none = is.1 })
    ] in
    (there, back)
