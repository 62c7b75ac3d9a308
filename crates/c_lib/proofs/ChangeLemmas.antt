-- What a change within the areas leaves of a rank's bytes, and the bytes up to an area's end.
use Rattle.std.proofs.Common.{◌≡◌, ℕ, zero, suc, ◌+◌, ◌-◌, ◌<◌, ◌≤◌, inl, inr, List, [], ◌∷◌, ◌++◌, length, take, refl, ap, sym, subst, ◌∙◌, arith, Bool, Some, None}
use Rattle.std.specs.Prelude.{slice_index, if◌then◌else◌, option_and_then, replicate}
use Rattle.std.proofs.lemmas.List.{take_all, length-replicate}
use Rattle.std.proofs.lemmas.Bool.{le-leb}
use Rattle.rank_range.specs.Layout.{Accessible, IsRange, base_of, globals_start}
use Rattle.rank_range.specs.Parts.{part, with_part, StayBeside}
use Rattle.rank_range.specs.Nodes.{blocks_of}
use Rattle.rank_range.specs.Areas.{Areas, areas_of, bytes_from, bytes_at, with_bytes_at, copied_at, text_at, room_at}
use Rattle.rank_range.proofs.PartLemmas.{put_beside, put_length, put_none, part_length, no_part}
use Rattle.rank_range.proofs.AccessLemmas.{becomes, from_length}
use Rattle.rank_range.proofs.TextLemmas.{are_texts}
use Rattle.c_lib.specs.Answers.{LeavesTheRest}

ends_below : (rank top a n : ℕ) (bytes : List ℕ) → IsRange top bytes → Accessible rank top a (suc n)
    → (base_of rank + globals_start ≤ a) × (a + n < base_of rank + top)
ends_below rank top a n bytes range (inl all) =
    let first = (all 0 (omega arith)).0 in
    let last = (all n (omega arith)).1 in
    let above = range.above in
    (omega (arith, first), omega (arith, last, above))
ends_below rank top a n bytes range (inr (inl all)) =
    let first = (all 0 (omega arith)).0 in
    let last = (all n (omega arith)).1 in
    let above = range.above in
    (omega (arith, first), omega (arith, last, above))
ends_below rank top a n bytes range (inr (inr all)) =
    let first = (all 0 (omega arith)).0 in
    let last = (all n (omega arith)).1 in
    (omega (arith, first), omega (arith, last))

leaves_same : (rank top : ℕ) (old new : List ℕ) → new ≡ old → LeavesTheRest rank top old new
leaves_same rank top old new same = record {
  beside = record { at = λ i apart. ap (λ (xs : List ℕ). slice_index xs i) same };
  whole = ap length same;
  blocks = ap (blocks_of rank) same;
}

pub leaves_put : (rank top a : ℕ) (old new bytes : List ℕ) → IsRange top old → Accessible rank top a (length bytes)
    → new ≡ with_part old (a - base_of rank) bytes → LeavesTheRest rank top old new
leaves_put rank top a old new [] range all is = leaves_same rank top old new (is ∙ put_none old (a - base_of rank))
leaves_put rank top a old new (b ∷ bs) range all is =
    let ends = ends_below rank top a (length bs) old range all in
    let low = ends.0 in
    let high = ends.1 in
    let whole = range.whole in
    let below = range.below in
    let room : a - base_of rank + length (b ∷ bs) ≤ length old = omega (arith, low, high, whole, below) in
    let P : List ℕ → Type 0 = λ xs. StayBeside old xs globals_start top in
    record {
      beside = subst P (sym is)
          (put_beside old (b ∷ bs) (a - base_of rank) globals_start top room (omega (arith, low)) (omega (arith, low, high)));
      whole = ap length is ∙ put_length old (b ∷ bs) (a - base_of rank) room;
      blocks = (becomes rank top a old new (b ∷ bs) range all is).blocks_are;
    }

there_length : (rank top a n : ℕ) (bytes : List ℕ) → IsRange top bytes → Accessible rank top a n
    → length (part bytes (a - base_of rank) n) ≡ n
there_length rank top a zero bytes range all = ap length (no_part bytes (a - base_of rank) 0 refl)
there_length rank top a (suc n) bytes range all =
    let ends = ends_below rank top a n bytes range all in
    let low = ends.0 in
    let high = ends.1 in
    let whole = range.whole in
    let below = range.below in
    part_length bytes (a - base_of rank) (suc n) (omega (arith, low, high, whole, below))

pub leaves_copy : (rank top to from n : ℕ) (old new : List ℕ) → IsRange top old → Accessible rank top from n → Accessible rank top to n
    → new ≡ with_part old (to - base_of rank) (part old (from - base_of rank) n) → LeavesTheRest rank top old new
leaves_copy rank top to from n old new range there room is =
    leaves_put rank top to old new (part old (from - base_of rank) n) range
    (subst (Accessible rank top to) (sym (there_length rank top from n old range there)) room) is

-- ---- the bytes up to an area's end

some_injective : (a b : List ℕ) → Some a ≡ Some b → a ≡ b
some_injective a b same = cc

pub rest_yes : (areas : Areas) (a n : ℕ) (xs : List ℕ) → n ≡ length (bytes_from areas a) → bytes_at areas a n ≡ Some xs
    → xs ≡ bytes_from areas a
unfolding bytes_at
rest_yes areas a n xs all is =
    let ys = bytes_from areas a in
    let first : Some (take n ys) ≡ Some xs =
    sym (ap (λ (t : Bool). if t then Some (take n ys) else None) (le-leb n (length ys) (omega (arith, all)))) ∙ is in
    sym (some_injective (take n ys) xs first) ∙ take_all n ys (omega (arith, all))

pub rest_no : (areas : Areas) (a n : ℕ) → n ≡ length (bytes_from areas a) → bytes_at areas a n ≡ None → ⊥
unfolding bytes_at
rest_no areas a n all is =
    let ys = bytes_from areas a in
    let first : Some (take n ys) ≡ None =
    sym (ap (λ (t : Bool). if t then Some (take n ys) else None) (le-leb n (length ys) (omega (arith, all)))) ∙ is in
    cc

pub room_is : (rank top r t a n : ℕ) (bytes : List ℕ) → IsRange top bytes → r ≡ rank → t ≡ top → n ≡ room_at r t a
    → n ≡ length (bytes_from (areas_of rank top bytes) a)
room_is rank top r t a n bytes range same_rank same_top is =
    is ∙ ap (λ (k : ℕ). room_at k t a) same_rank ∙ ap (λ (k : ℕ). room_at rank k a) same_top
    ∙ sym (from_length rank top a bytes range)

-- ---- a text that is copied

pub copied_text : (areas : Areas) (to from : ℕ) (text : List ℕ) → Some text ≡ text_at areas from
    → with_bytes_at areas to (text ++ 0 ∷ []) ≡ copied_at areas to from (length text + 1)
unfolding copied_at
copied_text areas to from text is =
    sym (ap (option_and_then (with_bytes_at areas to)) ((are_texts areas from text).0 (sym is)).0)

pub leaves_fill : (rank top a n byte : ℕ) (old new : List ℕ) → IsRange top old → Accessible rank top a n
    → new ≡ with_part old (a - base_of rank) (replicate n byte) → LeavesTheRest rank top old new
leaves_fill rank top a n byte old new range all is =
    leaves_put rank top a old new (replicate n byte) range (subst (Accessible rank top a) (sym (length-replicate n byte)) all) is
