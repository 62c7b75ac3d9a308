-- Numbers in a list of bytes after one of them was stored.
use Rattle.std.proofs.Common.{◌≡◌, ℕ, zero, suc, ◌+◌, ◌-◌, ◌*◌, ◌^◌, ◌<◌, ◌≤◌, ◌⊎◌, inl, inr, lit≤, List, ◌∷◌, ◌++◌, ◌∙◌, length, get_or, take, drop, slice_index, refl, sym, ap, subst, arith, length-append}
use Rattle.std.proofs.Math.Seq.{drop-append_seam, take-append_seam as take_seam}
use Rattle.std.proofs.lemmas.List.{get_or-drop, get_or-take, get_or-append_right, length-take-le, length-drop, drop-drop}
use Rattle.byteorder.specs.Endian.{little_from, little_number, little_bytes}
use Rattle.byteorder.specs.Numbers.{little_number-reads_back, little_from-lt, little_from-take, length-bytes_low_first}
use Rattle.std.specs.Int.{w64, to_le_bytes, byte_at, bytes_low_first}
use borrow.Rule.Slice.PartMut.{put_mid}
use Rattle.rank_range.specs.Numbers.{number_at, with_number, bytes_in}
use Rattle.rank_range.specs.declared.width.Width.{Width}
use Rattle.rank_range.specs.declared.width.Width.TheVariants.{One, Two, Four, Eight}

-- equal bytes make equal numbers
pub same_bytes : (i n : ℕ) (xs ys : List ℕ) → ((j : ℕ) → j < i + n → slice_index xs j ≡ slice_index ys j)
    → little_from i n xs ≡ little_from i n ys
same_bytes i zero xs ys same = refl
same_bytes i (suc n) xs ys same =
    let byte = same i (omega arith) in
    let rest = same_bytes (suc i) n xs ys (λ j below. same j (omega arith)) in
    rw (byte, rest) refl

-- a byte beside the place stays
pub byte_stays : (bytes : List ℕ) (at n v i : ℕ) → at + n ≤ length bytes → (i < at) ⊎ (at + n ≤ i)
    → slice_index (with_number bytes at n v) i ≡ slice_index bytes i
unfolding with_number
byte_stays bytes at n v i room (inl before) =
    let front : length (take at bytes) ≡ at = length-take-le at bytes (omega arith) in
    let all = take at bytes ++ (little_bytes n v ++ drop (at + n) bytes) in
    sym (get_or-take at all i 0 before)
    ∙ ap (λ (xs : List ℕ). get_or xs i 0)
    (let P : ℕ → Type 0 = λ k. take k all ≡ take at bytes in
    subst P front (take_seam (take at bytes) (little_bytes n v ++ drop (at + n) bytes)))
    ∙ get_or-take at bytes i 0 before
byte_stays bytes at n v i room (inr behind) =
    let front : length (take at bytes) ≡ at = length-take-le at bytes (omega arith) in
    get_or-append_right (take at bytes) (little_bytes n v ++ drop (at + n) bytes) at i 0 front (omega arith)
    ∙ get_or-append_right (little_bytes n v) (drop (at + n) bytes) n (i - at) 0 (length-bytes_low_first 0 n v) (omega arith)
    ∙ get_or-drop (at + n) bytes (i - at - n) 0
    ∙ ap (λ (k : ℕ). get_or bytes k 0) (omega arith)

pub loaded_back : (bytes : List ℕ) (at n v : ℕ) → at + n ≤ length bytes → v < 256 ^ n
    → number_at (with_number bytes at n v) at n ≡ v
unfolding with_number number_at
loaded_back bytes at n v room small =
    let front : length (take at bytes) ≡ at = length-take-le at bytes (omega arith) in
    let rest = little_bytes n v ++ drop (at + n) bytes in
    let P : ℕ → Type 0 = λ k. drop k (take at bytes ++ rest) ≡ rest in
    ap (little_number n) (subst P front (drop-append_seam (take at bytes) rest))
    ∙ little_number-reads_back n v (drop (at + n) bytes) small

pub others_stay : (bytes : List ℕ) (at n v other m : ℕ) → at + n ≤ length bytes → (other + m ≤ at) ⊎ (at + n ≤ other)
    → number_at (with_number bytes at n v) other m ≡ number_at bytes other m
unfolding number_at
others_stay bytes at n v other m room apart =
    same_bytes 0 m (drop other (with_number bytes at n v)) (drop other bytes)
    (λ j below.
    get_or-drop other (with_number bytes at n v) j 0
    ∙ byte_stays bytes at n v (other + j) room
    (elim apart [ inl before ↦ inl (omega arith) | inr behind ↦ inr (omega arith) ])
    ∙ sym (get_or-drop other bytes j 0))

pub length_stays : (bytes : List ℕ) (at n v : ℕ) → at + n ≤ length bytes
    → length (with_number bytes at n v) ≡ length bytes
unfolding with_number
length_stays bytes at n v room =
    let front : length (take at bytes) ≡ at = length-take-le at bytes (omega arith) in
    let whole = length-append (take at bytes) (little_bytes n v ++ drop (at + n) bytes) in
    let rest = length-append (little_bytes n v) (drop (at + n) bytes) in
    let field : length (little_bytes n v) ≡ n = length-bytes_low_first 0 n v in
    let end = length-drop (at + n) bytes in
    omega (arith, front, whole, rest, field, end)

-- a number of n bytes is below 256 ^ n
pub number_fits : (bytes : List ℕ) (at n x : ℕ) → ((i : ℕ) → slice_index bytes i < 256)
    → x ≡ number_at bytes at n → x < 256 ^ n
unfolding number_at
number_fits bytes at n x fits e =
    let P : ℕ → Type 0 = λ y. y < 256 ^ n in
    subst P (sym e)
    (little_from-lt 0 n (drop at bytes)
    (λ i. let Q : ℕ → Type 0 = λ y. y < 256 in subst Q (sym (get_or-drop at bytes i 0)) (fits (at + i))))

-- a number's bytes in the part from `at` on, which reaches to the end
pub read_is : (bytes : List ℕ) (at n count x : ℕ) → count ≡ n → at + n ≤ length bytes
    → x ≡ little_number count (take (length bytes - at) (drop at bytes)) → x ≡ number_at bytes at n
unfolding number_at
read_is bytes at n count x same room e =
    e ∙ little_from-take 0 count (length bytes - at) (drop at bytes) (omega arith)
    ∙ ap (λ (k : ℕ). little_number k (drop at bytes)) same

pub byte_is : (bytes : List ℕ) (at : ℕ) → slice_index bytes at ≡ number_at bytes at 1
unfolding number_at
byte_is bytes at =
    let more : get_or (drop at bytes) 0 0 + 256 * 0 ≡ get_or (drop at bytes) 0 0 = omega arith in
    let same : at + 0 ≡ at = omega arith in
    sym (more ∙ get_or-drop at bytes 0 0 ∙ ap (λ (k : ℕ). get_or bytes k 0) same)

-- the lowest bytes stand first
lowest : (i k n x : ℕ) → n ≤ k → take n (bytes_low_first i k x) ≡ bytes_low_first i n x
lowest i k zero x h = refl
lowest i zero (suc n) x h = absurd (omega arith)
lowest i (suc k) (suc n) x h = ap (λ (r : List ℕ). byte_at i x ∷ r) (lowest (suc i) k n x (omega arith))

-- the part from `at` on after a copy of the lowest bytes
pub written : (bytes : List ℕ) (at n count k v : ℕ) (field new : List ℕ) → count ≡ n → n ≤ 8 → k ≡ n
    → field ≡ to_le_bytes w64 v → new ≡ take count field → put_mid at k bytes new ≡ with_number bytes at n v
unfolding with_number
written bytes at n count k v field new same few part is copied =
    let low : new ≡ little_bytes n v =
    copied ∙ ap (λ (j : ℕ). take j field) same ∙ ap (take n) is ∙ lowest 0 8 n v few in
    let rest : drop k (drop at bytes) ≡ drop (at + n) bytes =
    ap (λ (j : ℕ). drop j (drop at bytes)) part ∙ drop-drop n at bytes in
    ap (λ (xs : List ℕ). take at bytes ++ (xs ++ drop k (drop at bytes))) low
    ∙ ap (λ (xs : List ℕ). take at bytes ++ (little_bytes n v ++ xs)) rest

-- all eight bytes
pub whole_field : (v : ℕ) (field : List ℕ) → field ≡ to_le_bytes w64 v → field ≡ take 8 field
whole_field v field is = is ∙ ap (take 8) (sym is)

-- no width has more than eight bytes
pub at_most_eight : (width : Width) → bytes_in width ≤ 8
at_most_eight One = lit≤ tt
at_most_eight Two = lit≤ tt
at_most_eight Four = lit≤ tt
at_most_eight Eight = lit≤ tt
