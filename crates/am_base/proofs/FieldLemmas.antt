-- A field of eight bytes, which is too wide for the search.
use Rattle.std.proofs.Common.{◌≡◌, ℕ, zero, suc, [], ◌∷◌, subst, lit<, ◌+◌, ◌-◌, ◌<◌, ◌^◌, ◌++◌, ◌∙◌, List, length, get_or, take, drop, slice_range, refl, sym, ap, arith, length-append, append_assoc}
use Rattle.std.proofs.Math.Seq.{drop-append_seam, take-append_seam}
use Rattle.std.proofs.lemmas.List.{get_or-drop}
use Rattle.std.proofs.lemmas.Nat.{le_bytes_8, from_le_bytes-to_le_bytes_8}
use Rattle.std.specs.Int.{w64, to_le_bytes, from_le_bytes}
use Rattle.byteorder.specs.Endian.{little_number}
use Rattle.am_base.specs.Fields.{Takes}

-- both words for the number of eight bytes mean the same
pub little_number-8 : (xs : List ℕ) → little_number 8 xs ≡ from_le_bytes w64 xs
little_number-8 xs = omega arith

-- the front of a list of bytes is one
pub fits_take : (n : ℕ) (xs : List ℕ) → ((i : ℕ) → get_or xs i 0 < 256) → (i : ℕ) → get_or (take n xs) i 0 < 256
fits_take zero xs f i = lit< tt
fits_take (suc n) [] f i = lit< tt
fits_take (suc n) (x ∷ xs) f zero = f 0
fits_take (suc n) (x ∷ xs) f (suc i) = fits_take n xs (λ j. f (suc j)) i

-- a part of a list of bytes is one
pub fits_range : (xs : List ℕ) (a b : ℕ) → ((i : ℕ) → get_or xs i 0 < 256) → (i : ℕ) → get_or (slice_range xs a b) i 0 < 256
fits_range xs a b f =
    fits_take (b - a) (drop a xs) (λ i. let P : ℕ → Type 0 = λ y. y < 256 in subst P (sym (get_or-drop a xs i 0)) (f (a + i)))

pub takes_8 : (bytes : List ℕ) (at : ℕ) (field : List ℕ) (x : ℕ)
    → field ≡ slice_range bytes at (at + 8) → length field ≡ 8 → ((i : ℕ) → get_or bytes i 0 < 256)
    → x ≡ little_number 8 field → Takes w64 bytes at (x, at + 8)
takes_8 bytes at field x e long fits is =
    let number : x ≡ from_le_bytes w64 field = is ∙ little_number-8 field in
    let fields_fit : (i : ℕ) → get_or field i 0 < 256 =
    let P : List ℕ → Type 0 = λ ys. (i : ℕ) → get_or ys i 0 < 256 in
    subst P (sym e) (fits_range bytes at (at + 8) fits) in
    record {
      number = number ∙ ap (from_le_bytes w64) e;
      field = sym e ∙ sym (le_bytes_8 field x long fields_fit number);
      next = refl;
    }

-- the bytes between two others
pub middle : (before field after : List ℕ) (n : ℕ) → length field ≡ n
    → slice_range (before ++ field ++ after) (length before) (length before + n) ≡ field
middle before field after n e =
    let dropped : drop (length before) (before ++ field ++ after) ≡ field ++ after =
    ap (drop (length before)) (append_assoc before field after) ∙ drop-append_seam before (field ++ after) in
    let size : length before + n - length before ≡ length field = omega (arith, e) in
    ap (λ k. take k (drop (length before) (before ++ field ++ after))) size
    ∙ ap (take (length field)) dropped ∙ take-append_seam field after

pub taken_back_8 : (before after : List ℕ) (v : ℕ) (taken : ℕ × ℕ) → v < 2 ^ 64
    → Takes w64 (before ++ to_le_bytes w64 v ++ after) (length before) taken
    → (taken.0 ≡ v) × (taken.1 ≡ length (before ++ to_le_bytes w64 v))
taken_back_8 before after v taken small t = (
  t.number ∙ ap (from_le_bytes w64) (middle before (to_le_bytes w64 v) after 8 refl) ∙ from_le_bytes-to_le_bytes_8 v small,
  t.next ∙ sym (length-append before (to_le_bytes w64 v)),
)
