-- How the composite of two types' parts grows by one part.
use Rattle.std.proofs.Common.{ℕ, zero, suc, ◌≡◌, refl, ◌+◌, ◌<◌, ◌≤◌, List, [], ◌∷◌, length, take, get_or, Option, Some, None, ap, ◌∙◌, sym, arith}
use Rattle.std.specs.Prelude.{slice_get, slice_set}
use Rattle.c_types.specs.declared.ctype.Part.{Part}
use Rattle.c_typing.specs.Types.{merged_part, merged_parts}

pub merged_none : (ps : List Part) → merged_parts ps [] ≡ ps
merged_none [] = refl
merged_none (p ∷ ps) = refl

-- One more part of the second type is merged with the first type's part at the same place,
pub merged_more : (ps qs : List Part) (i : ℕ) (d m : Part) → i < length qs → slice_get (merged_parts ps (take i qs)) i ≡ Some m
    → merged_parts ps (take (suc i) qs) ≡ slice_set (merged_parts ps (take i qs)) i (merged_part m (get_or qs i d))
merged_more ps [] i d m below is = absurd (omega (arith, below))
merged_more [] (q ∷ qs) zero d m below is = refl
merged_more [] (q ∷ qs) (suc i) d m below is = refl
merged_more (p ∷ ps) (q ∷ qs) zero d m below is = let rest = merged_none ps in cc (is, rest)
merged_more (p ∷ ps) (q ∷ qs) (suc i) d m below is =
    ap (λ rs. merged_part p q ∷ rs) (merged_more ps qs i d m (omega (arith, below)) is)

-- and nothing changes where the first type has none there.
pub merged_end : (ps qs : List Part) (i : ℕ) → slice_get (merged_parts ps (take i qs)) i ≡ None
    → merged_parts ps (take (suc i) qs) ≡ merged_parts ps (take i qs)
merged_end [] qs i is = refl
merged_end (p ∷ ps) [] zero is = refl
merged_end (p ∷ ps) [] (suc i) is = refl
merged_end (p ∷ ps) (q ∷ qs) zero is = absurd (cc (is))
merged_end (p ∷ ps) (q ∷ qs) (suc i) is = ap (λ rs. merged_part p q ∷ rs) (merged_end ps qs i is)

-- The same as a loop has them, that counts on.
pub merges_on : (now after ps qs : List Part) (at index : ℕ) (d m item : Part) → at ≡ index → now ≡ merged_parts ps (take index qs) → index < length qs
    → slice_get now at ≡ Some m → item ≡ merged_part m (get_or qs index d) → after ≡ slice_set now at item
    → (at + 1 ≡ index + 1) × (after ≡ merged_parts ps (take (index + 1) qs))
merges_on now after ps qs at index d m item at_is now_is below is item_is after_is =
    let found : slice_get (merged_parts ps (take index qs)) index ≡ Some m = cc (at_is, now_is, is) in
    let more = merged_more ps qs index d m below found in
    let next : suc index ≡ index + 1 = omega (arith) in
    (ap (λ n. n + 1) at_is, cc (at_is, now_is, item_is, after_is, more, next))

pub merges_end : (now after ps qs : List Part) (at index : ℕ) → at ≡ index → now ≡ merged_parts ps (take index qs) → slice_get now at ≡ None → after ≡ now
    → (at + 1 ≡ index + 1) × (after ≡ merged_parts ps (take (index + 1) qs))
merges_end now after ps qs at index at_is now_is is after_is =
    let found : slice_get (merged_parts ps (take index qs)) index ≡ None = cc (at_is, now_is, is) in
    let more = merged_end ps qs index found in
    let next : suc index ≡ index + 1 = omega (arith) in
    (ap (λ n. n + 1) at_is, cc (now_is, after_is, more, next))
