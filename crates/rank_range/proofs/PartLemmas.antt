-- Parts of a list of bytes, and bytes that are put into one.
use Rattle.std.proofs.Common.{◌≡◌, ℕ, ◌+◌, ◌-◌, ◌<◌, ◌≤◌, ◌⊎◌, ◌∙◌, inl, inr, List, [], ◌∷◌, ◌++◌, length, take, drop, get_or, slice_index, refl, sym, ap, arith, length-append, append_assoc, length-drop, replicate}
use Rattle.std.proofs.lemmas.List.{length-take-le, length-replicate, drop-drop, get_or-append_right, get_or_append_left, get_or-drop, get_or-take, ext_get_or, take-append-drop, drop-take, take-take}
use Rattle.byteorder.specs.Numbers.{little_from-take, length-bytes_low_first}
use borrow.Rule.Slice.PartMut.{put_mid}
use Rattle.std.proofs.lemmas.Bool.{cases_lt}
use Rattle.byteorder.specs.Endian.{little_number, little_bytes}
use Rattle.rank_range.specs.Parts.{part, with_part, StayBeside}
use Rattle.rank_range.specs.Numbers.{number_at, with_number}

pub part_is : (bytes : List ℕ) (at n k : ℕ) → k ≡ n → take k (drop at bytes) ≡ part bytes at n
unfolding part
part_is bytes at n k same = ap (λ (j : ℕ). take j (drop at bytes)) same

pub put_is : (bytes new : List ℕ) (at k : ℕ) → k ≡ length new → put_mid at k bytes new ≡ with_part bytes at new
unfolding with_part
put_is bytes new at k same =
    ap (λ (r : List ℕ). take at bytes ++ (new ++ r))
    (ap (λ (j : ℕ). drop j (drop at bytes)) same ∙ drop-drop (length new) at bytes)

pub copied : (bytes : List ℕ) (to from n k : ℕ) → from + n ≤ length bytes → k ≡ n
    → (take to bytes ++ take k (drop from bytes)) ++ drop (to + k) bytes ≡ with_part bytes to (part bytes from n)
unfolding with_part part
copied bytes to from n k room same =
    let count : length (take n (drop from bytes)) ≡ n = length-take-le n (drop from bytes) (simp length-drop (omega arith)) in
    append_assoc (take to bytes) (take k (drop from bytes)) (drop (to + k) bytes)
    ∙ ap (λ (j : ℕ). take to bytes ++ (take j (drop from bytes) ++ drop (to + j) bytes)) same
    ∙ ap (λ (j : ℕ). take to bytes ++ (take n (drop from bytes) ++ drop (to + j) bytes)) (sym count)

pub filled : (bytes new : List ℕ) (at n k byte : ℕ) → k ≡ n → at + n ≤ length bytes
    → new ≡ replicate (length (take k (drop at bytes))) byte → put_mid at k bytes new ≡ with_part bytes at (replicate n byte)
filled bytes new at n k byte same room is =
    let count : k ≡ length (replicate n byte) = same ∙ sym (length-replicate n byte) in
    let size : length (take k (drop at bytes)) ≡ n =
    length-take-le k (drop at bytes) (simp length-drop (omega (arith, same, room))) ∙ same in
    ap (put_mid at k bytes) (is ∙ ap (λ (j : ℕ). replicate j byte) size) ∙ put_is bytes (replicate n byte) at k count

-- ---- bytes one by one

pub part_length : (bytes : List ℕ) (at n : ℕ) → at + n ≤ length bytes → length (part bytes at n) ≡ n
unfolding part
part_length bytes at n room = length-take-le n (drop at bytes) (simp length-drop (omega (arith, room)))

pub part_byte : (bytes : List ℕ) (at n i : ℕ) → i < n → slice_index (part bytes at n) i ≡ slice_index bytes (at + i)
unfolding part
part_byte bytes at n i below = get_or-take n (drop at bytes) i 0 below ∙ get_or-drop at bytes i 0

pub put_before : (bytes new : List ℕ) (at i : ℕ) → at ≤ length bytes → i < at
    → slice_index (with_part bytes at new) i ≡ slice_index bytes i
unfolding with_part
put_before bytes new at i room before =
    let front : length (take at bytes) ≡ at = length-take-le at bytes room in
    get_or_append_left (take at bytes) (new ++ drop (at + length new) bytes) 0 i (omega (arith, front, before))
    ∙ get_or-take at bytes i 0 before

pub put_behind : (bytes new : List ℕ) (at i : ℕ) → at ≤ length bytes → at + length new ≤ i
    → slice_index (with_part bytes at new) i ≡ slice_index bytes i
unfolding with_part
put_behind bytes new at i room behind =
    let front : length (take at bytes) ≡ at = length-take-le at bytes room in
    get_or-append_right (take at bytes) (new ++ drop (at + length new) bytes) at i 0 front (omega (arith, behind))
    ∙ get_or-append_right new (drop (at + length new) bytes) (length new) (i - at) 0 refl (omega (arith, behind))
    ∙ get_or-drop (at + length new) bytes (i - at - length new) 0
    ∙ ap (λ (k : ℕ). get_or bytes k 0) (omega (arith, behind))

pub put_inside : (bytes new : List ℕ) (at i : ℕ) → at ≤ length bytes → at ≤ i → i < at + length new
    → slice_index (with_part bytes at new) i ≡ slice_index new (i - at)
unfolding with_part
put_inside bytes new at i room from below =
    let front : length (take at bytes) ≡ at = length-take-le at bytes room in
    get_or-append_right (take at bytes) (new ++ drop (at + length new) bytes) at i 0 front from
    ∙ get_or_append_left new (drop (at + length new) bytes) 0 (i - at) (omega (arith, from, below))

pub put_length : (bytes new : List ℕ) (at : ℕ) → at + length new ≤ length bytes → length (with_part bytes at new) ≡ length bytes
unfolding with_part
put_length bytes new at room =
    let front : length (take at bytes) ≡ at = length-take-le at bytes (omega (arith, room)) in
    let whole = length-append (take at bytes) (new ++ drop (at + length new) bytes) in
    let rest = length-append new (drop (at + length new) bytes) in
    let end = length-drop (at + length new) bytes in
    omega (arith, front, whole, rest, end, room)

pub put_none : (bytes : List ℕ) (at : ℕ) → with_part bytes at [] ≡ bytes
unfolding with_part
put_none bytes at =
    let same : at + 0 ≡ at = omega arith in
    ap (λ (k : ℕ). take at bytes ++ drop k bytes) same ∙ take-append-drop at bytes

pub put_beside : (bytes new : List ℕ) (at start end : ℕ) → at + length new ≤ length bytes → start ≤ at → at + length new ≤ end
    → StayBeside bytes (with_part bytes at new) start end
put_beside bytes new at start end room low high = record {
  at = λ i apart.
      elim apart [
        | inl before ↦ put_before bytes new at i (omega (arith, room)) (omega (arith, before, low))
        | inr behind ↦ put_behind bytes new at i (omega (arith, room)) (omega (arith, behind, high))
      ];
}

-- ---- parts of parts

-- before, inside or behind n places
three : (i at n : ℕ) → (i < at) ⊎ ((at ≤ i) × (i < at + n)) ⊎ (at + n ≤ i)
three i at n =
    elim (cases_lt i at) [
      | inl before ↦ inl before
      | inr from ↦ elim (cases_lt i (at + n)) [ inl below ↦ inr (inl (from, below)) | inr behind ↦ inr (inr behind) ]
    ]

pub part_of_part : (bytes : List ℕ) (start size at n : ℕ) → at + n ≤ size → part (part bytes start size) at n ≡ part bytes (start + at) n
unfolding part
part_of_part bytes start size at n room =
    let size_is : size ≡ at + (size - at) = omega (arith, room) in
    ap (λ (k : ℕ). take n (drop at (take k (drop start bytes)))) size_is
    ∙ ap (take n) (drop-take at (size - at) (drop start bytes))
    ∙ take-take n (size - at) (drop at (drop start bytes)) (omega (arith, room))
    ∙ ap (take n) (drop-drop at start bytes)

-- a part that holds all of what is put
pub part_put : (bytes new : List ℕ) (at start size : ℕ) → start + size ≤ length bytes → start ≤ at → at + length new ≤ start + size
    → part (with_part bytes at new) start size ≡ with_part (part bytes start size) (at - start) new
part_put bytes new at start size whole low high =
    let inner = part_length bytes start size whole in
    let same = put_length bytes new at (omega (arith, whole, high)) in
    let left = part_length (with_part bytes at new) start size (omega (arith, same, whole)) in
    let right = put_length (part bytes start size) new (at - start) (omega (arith, inner, low, high)) in
    ext_get_or 0 (part (with_part bytes at new) start size) (with_part (part bytes start size) (at - start) new)
    (omega (arith, left, right, inner))
    (λ i below.
    let small : i < size = omega (arith, left, below) in
    part_byte (with_part bytes at new) start size i small
    ∙ elim (three (start + i) at (length new)) [
      | inl before ↦
          put_before bytes new at (start + i) (omega (arith, whole, high)) before
          ∙ sym (part_byte bytes start size i small)
          ∙ sym (put_before (part bytes start size) new (at - start) i (omega (arith, inner, low, high)) (omega (arith, before, low)))
      | inr (inl inside) ↦
          put_inside bytes new at (start + i) (omega (arith, whole, high)) inside.0 inside.1
          ∙ ap (slice_index new) (omega (arith, low))
          ∙ sym (put_inside (part bytes start size) new (at - start) i (omega (arith, inner, low, high)) (omega (arith, inside.0)) (omega (arith, inside.1, low)))
      | inr (inr behind) ↦
          put_behind bytes new at (start + i) (omega (arith, whole, high)) behind
          ∙ sym (part_byte bytes start size i small)
          ∙ sym (put_behind (part bytes start size) new (at - start) i (omega (arith, inner, low, high)) (omega (arith, behind, low)))
    ])

-- a part beside which the bytes change
pub part_stays : (old new : List ℕ) (low high start size : ℕ) → StayBeside old new low high → length new ≡ length old
    → start + size ≤ length old → (start + size ≤ low) ⊎ (high ≤ start) → part new start size ≡ part old start size
part_stays old new low high start size stay same whole apart =
    let left = part_length new start size (omega (arith, same, whole)) in
    let right = part_length old start size whole in
    ext_get_or 0 (part new start size) (part old start size) (omega (arith, left, right))
    (λ i below.
    let small : i < size = omega (arith, left, below) in
    part_byte new start size i small
    ∙ stay.at (start + i)
    (elim apart [ inl before ↦ inl (omega (arith, before, small)) | inr behind ↦ inr (omega (arith, behind)) ])
    ∙ sym (part_byte old start size i small))

-- ---- numbers

pub number_part : (bytes : List ℕ) (at n : ℕ) → number_at bytes at n ≡ little_number n (part bytes at n)
unfolding number_at part
number_part bytes at n = sym (little_from-take 0 n n (drop at bytes) (omega arith))

pub number_put : (bytes : List ℕ) (at n v : ℕ) → with_number bytes at n v ≡ with_part bytes at (little_bytes n v)
unfolding with_number with_part
number_put bytes at n v =
    let count = length-bytes_low_first 0 n v in
    ap (λ (k : ℕ). take at bytes ++ (little_bytes n v ++ drop (at + k) bytes)) (sym count)

-- ---- no bytes, which may be anywhere

pub no_part : (bytes : List ℕ) (at n : ℕ) → n ≡ 0 → part bytes at n ≡ []
unfolding part
no_part bytes at n none = ap (λ (k : ℕ). take k (drop at bytes)) none

pub no_put : (bytes new : List ℕ) (at : ℕ) → length new ≡ 0 → bytes ≡ with_part bytes at new
no_put bytes [] at none = sym (put_none bytes at)
no_put bytes (b ∷ bs) at none = absurd (omega arith)

pub no_copy : (bytes : List ℕ) (to from n : ℕ) → n ≡ 0 → bytes ≡ with_part bytes to (part bytes from n)
no_copy bytes to from n none = no_put bytes (part bytes from n) to (ap length (no_part bytes from n none))

pub no_fill : (bytes : List ℕ) (at n byte : ℕ) → n ≡ 0 → bytes ≡ with_part bytes at (replicate n byte)
no_fill bytes at n byte none = no_put bytes (replicate n byte) at (length-replicate n byte ∙ none)
