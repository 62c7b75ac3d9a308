-- The bytes of a memory that are written out, and a memory that is filled with bytes.
use Rattle.std.proofs.Common.{◌≡◌, ◌∙◌, ◌+◌, ◌-◌, ◌<◌, ◌≤◌, ◌^◌, ◌⊎◌, ℕ, suc, List, [], ◌∷◌, ◌++◌, length, take, drop, get_or, refl, sym, ap, subst, inl, inr, arith, append_assoc, append-nil}
use Rattle.std.specs.Prelude.{slice_index}
use Rattle.std.proofs.lemmas.List.{take_more, ext_get_or, get_or-drop, length-drop}
use Rattle.std.proofs.Math.Seq.{take-add, take-length}
use Rattle.std.proofs.lemmas.Bool.{cases_lt}
use Rattle.rank_range.specs.Layout.{range_bytes}
use Rattle.rank_range.specs.Numbers.{number_at, with_number}
use Rattle.rank_range.specs.Parts.{part, with_part}
use Rattle.rank_range.proofs.NumberLemmas.{byte_is, byte_stays, loaded_back}
use Rattle.rank_range.proofs.PartLemmas.{put_before, put_inside, part_length, part_byte}
use Rattle.rank_image.specs.Memory.{IsFilled}

-- one byte more
pub part_more : (bytes : List ℕ) (from at n m : ℕ) (b : ℕ) → from ≤ at → n ≡ at - from → m ≡ at + 1 - from → at < length bytes
    → b ≡ number_at bytes at 1 → part bytes from m ≡ part bytes from n ++ b ∷ []
unfolding part
part_more bytes from at n m b low is next inside told =
    let more : m ≡ n + 1 = omega (arith, low, is, next) in
    let place : from + n ≡ at = omega (arith, low, is) in
    let room : n < length (drop from bytes) = omega (arith, length-drop from bytes, place, inside) in
    let byte : get_or (drop from bytes) n 0 ≡ b = get_or-drop from bytes n 0 ∙ ap (λ k. slice_index bytes k) place ∙ byte_is bytes at ∙ sym told in
    ap (λ k. take k (drop from bytes)) more ∙ take_more (drop from bytes) n 0 room
    ∙ ap (λ z. take n (drop from bytes) ++ z ∷ []) byte

pub part_none : (bytes : List ℕ) (from n : ℕ) → n ≡ 0 → part bytes from n ≡ []
unfolding part
part_none bytes from n is = ap (λ k. take k (drop from bytes)) is

-- a part behind those before it
pub part_behind : (out new start bytes : List ℕ) (at n next : ℕ) → out ≡ start ++ take at bytes → new ≡ out ++ part bytes at n
    → next ≡ at + n → new ≡ start ++ take next bytes
unfolding part
part_behind out new start bytes at n next was put is =
    put ∙ ap (λ z. z ++ take n (drop at bytes)) was ∙ append_assoc start (take at bytes) (take n (drop at bytes))
    ∙ ap (λ z. start ++ z) (sym (ap (λ k. take k bytes) is ∙ take-add at n bytes))

-- nothing is filled at the start, and at the end all is
pub filled_none : (bytes given : List ℕ) → IsFilled bytes given 0
filled_none bytes given = record { at = λ i h. absurd (omega (arith, h)) }

pub filled_same : (bytes given : List ℕ) → length bytes ≡ range_bytes → length given ≡ range_bytes → IsFilled bytes given range_bytes → bytes ≡ given
filled_same bytes given whole given_whole filled =
    ext_get_or 0 bytes given (whole ∙ sym given_whole) (λ i h. filled.at i (subst (λ n. i < n) whole h))

-- one byte more is filled
pub filled_byte : (old new given : List ℕ) (at v next : ℕ) → IsFilled old given at → new ≡ with_number old at 1 v → at < length old
    → v ≡ slice_index given at → v < 256 → next ≡ at + 1 → IsFilled new given next
filled_byte old new given at v next was put inside is small after =
    record {
      at = λ i h.
          let room : at + 1 ≤ length old = omega (arith, inside) in
          elim (cases_lt i at) [
            | inl before ↦ ap (λ z. slice_index z i) put ∙ byte_stays old at 1 v i room (inl before) ∙ was.at i before
            | inr from ↦
                let here : i ≡ at = omega (arith, h, after, from) in
                let fits : v < 256 ^ 1 = omega (arith, small) in
                ap (λ z. slice_index z i) put ∙ ap (λ k. slice_index (with_number old at 1 v) k) here
                ∙ byte_is (with_number old at 1 v) at ∙ loaded_back old at 1 v room fits ∙ is ∙ ap (λ k. slice_index given k) (sym here)
          ];
    }

-- a part more is filled
pub filled_part : (old new given : List ℕ) (at place n next : ℕ) → IsFilled old given at → new ≡ with_part old place (part given at n)
    → place ≡ at → at ≤ length old → at + n ≤ length given → next ≡ at + n → IsFilled new given next
filled_part old new given at place n next was put there inside room after =
    let bytes = part given at n in
    let long : length bytes ≡ n = part_length given at n room in
    let here : new ≡ with_part old at bytes = put ∙ ap (λ p. with_part old p bytes) there in
    record {
      at = λ i h.
          elim (cases_lt i at) [
            | inl before ↦ ap (λ z. slice_index z i) here ∙ put_before old bytes at i inside before ∙ was.at i before
            | inr from ↦
                let below : i < at + length bytes = omega (arith, h, after, long) in
                let back : at + (i - at) ≡ i = omega (arith, from) in
                ap (λ z. slice_index z i) here ∙ put_inside old bytes at i inside from below
                ∙ part_byte given at n (i - at) (omega (arith, h, after, from)) ∙ ap (λ k. slice_index given k) back
          ];
    }

-- all bytes are written in four parts
pub written_in_parts : (bytes out a b c d : List ℕ) (p q r whole m n k j : ℕ) → length bytes ≡ whole
    → a ≡ out ++ part bytes 0 m → b ≡ a ++ part bytes p n → c ≡ b ++ part bytes q k → d ≡ c ++ part bytes r j
    → p ≡ 0 + m → q ≡ p + n → r ≡ q + k → whole ≡ r + j → d ≡ out ++ bytes
written_in_parts bytes out a b c d p q r whole m n k j size first second third fourth to_p to_q to_r to_end =
    let start : out ≡ out ++ take 0 bytes = sym (append-nil out) in
    let one : a ≡ out ++ take p bytes = part_behind out a out bytes 0 m p start first to_p in
    let two : b ≡ out ++ take q bytes = part_behind a b out bytes p n q one second to_q in
    let three : c ≡ out ++ take r bytes = part_behind b c out bytes q k r two third to_r in
    let four : d ≡ out ++ take whole bytes = part_behind c d out bytes r j whole three fourth to_end in
    four ∙ ap (λ z. out ++ z) (ap (λ z. take z bytes) (sym size) ∙ take-length bytes)
