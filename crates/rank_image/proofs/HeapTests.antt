-- The test of a heap tells whether the bytes spell one.
use Rattle.std.proofs.Common.{◌≡◌, ◌∙◌, ◌+◌, ◌*◌, ◌<◌, ◌≤◌, ◌⊎◌, ◌↔◌, ℕ, zero, suc, Bool, true, false, not, ◌&&◌, ◌||◌, ◌==◌, nat_lt, nat_le, if◌then◌else◌, List, [], ◌∷◌, ◌++◌, length, All, refl, sym, ap, subst, inl, inr, arith, append-nil}
use Rattle.std.specs.Prelude.{slice_index, drop}
use Rattle.rank_range.specs.declared.heap.Block.{Block}
use Rattle.std.proofs.lemmas.Bool.{eqb-true, eq-eqb, cases_eq, leb-true, le-leb, lt-ltb, ne_eqb}
use Rattle.std.proofs.lemmas.List.{get_or-drop}
use Rattle.byte_formats.specs.FormatLaws.{both_true, and_is_true}
use Rattle.rank_range.specs.Heap.{most_blocks}
use Rattle.rank_range.specs.Numbers.{number_at}
use Rattle.rank_range.specs.Nodes.{node_count, no_node, heap_units, first_node, first_unused, live_blocks, hole_count, node_at, node_place, first_of, times_in, chain_of, IsUnused, IsHole, IsBlock, AreLinked, AreLinkedBack, Cover, pieces_of, IsSoundHeap}
use Rattle.rank_image.specs.HeapTest.{used_of, unused_of, is_piece, fits_used, fit_used, fit_unused, count_of, is_each_once, are_zero, end_in_zeros, fits_header, fit_nodes, is_sound_heap}
use Rattle.rank_image.specs.Sound.{HasNodes, HeapIsTested}
use Rattle.rank_image.proofs.Orderly.{all_none, all_cons}

pub all_head : {X : Type 0} (P : X → Type 0) (x : X) (xs : List X) → All P (x ∷ xs) → P x
all_head P x xs h = h 0 x (omega arith)

pub all_tail : {X : Type 0} (P : X → Type 0) (x : X) (xs : List X) → All P (x ∷ xs) → All P xs
all_tail P x xs h k d inside = h (suc k) d (omega (arith, inside))

-- ---- used nodes

-- A block, or a hole that isn't behind a hole.
abbrev pub Piece : Bool → ℕ → Type 0
Piece hole kind = (kind ≡ 2) ⊎ ((kind ≡ 1) × (hole ≡ false))

-- all used nodes from one on
abbrev pub Fits : List ℕ → ℕ → ℕ → Bool → List ℕ → Type 0
Fits bytes before from hole [] = from ≡ heap_units
Fits bytes before from hole (n ∷ ns) =
    ((node_at bytes n).previous ≡ before) × ((node_at bytes n).next ≡ first_of ns) × ((node_at bytes n).start ≡ from)
    × (1 ≤ (node_at bytes n).units) × Piece hole (node_at bytes n).kind
    × Fits bytes n (from + (node_at bytes n).units) ((node_at bytes n).kind == 1) ns

or_true : (a b : Bool) → (a || b) ≡ true → (a ≡ true) ⊎ (b ≡ true)
or_true true b e = inl refl
or_true false b e = inr e

not_true : (b : Bool) → not b ≡ true → b ≡ false
not_true true e = absurd (cc)
not_true false e = refl

piece_told : (hole : Bool) (kind : ℕ) → is_piece hole kind ≡ true → Piece hole kind
piece_told hole kind e =
    elim (or_true (kind == 2) ((kind == 1) && not hole) e) [
      | inl block ↦ inl (eqb-true kind 2 block)
      | inr rest ↦ let both = both_true (kind == 1) (not hole) rest in inr (eqb-true kind 1 both.0, not_true hole both.1)
    ]

piece_tells : (hole : Bool) (kind : ℕ) → Piece hole kind → is_piece hole kind ≡ true
piece_tells hole kind (inl block) = rw (eq-eqb kind 2 block) refl
piece_tells hole kind (inr rest) =
    let k : kind ≡ 1 = rest.0 in
    ap (λ j. is_piece hole j) k ∙ ap (λ h. is_piece h 1) rest.1

pub fit_told : (bytes : List ℕ) (before from : ℕ) (hole : Bool) (ns : List ℕ) → fit_used bytes before from hole ns ≡ true → Fits bytes before from hole ns
unfolding fit_used
fit_told bytes before from hole [] e = eqb-true from heap_units e
fit_told bytes before from hole (n ∷ ns) e =
    let both = both_true (fits_used bytes before from hole (first_of ns) n) _ e in
    let a = both_true ((node_at bytes n).previous == before) _ both.0 in
    let b = both_true ((node_at bytes n).next == first_of ns) _ a.1 in
    let c = both_true ((node_at bytes n).start == from) _ b.1 in
    let d = both_true (nat_le 1 (node_at bytes n).units) _ c.1 in (
      eqb-true (node_at bytes n).previous before a.0,
      eqb-true (node_at bytes n).next (first_of ns) b.0,
      eqb-true (node_at bytes n).start from c.0,
      leb-true 1 (node_at bytes n).units d.0,
      piece_told hole (node_at bytes n).kind d.1,
      fit_told bytes n (from + (node_at bytes n).units) ((node_at bytes n).kind == 1) ns both.1,
    )

pub fit_tells : (bytes : List ℕ) (before from : ℕ) (hole : Bool) (ns : List ℕ) → Fits bytes before from hole ns → fit_used bytes before from hole ns ≡ true
unfolding fit_used
fit_tells bytes before from hole [] e = eq-eqb from heap_units e
fit_tells bytes before from hole (n ∷ ns) h =
    and_is_true _ _
    (and_is_true _ _ (eq-eqb (node_at bytes n).previous before h.0)
    (and_is_true _ _ (eq-eqb (node_at bytes n).next (first_of ns) h.1)
    (and_is_true _ _ (eq-eqb (node_at bytes n).start from h.2)
    (and_is_true _ _ (le-leb 1 (node_at bytes n).units h.3) (piece_tells hole (node_at bytes n).kind h.4)))))
    (fit_tells bytes n (from + (node_at bytes n).units) ((node_at bytes n).kind == 1) ns h.5)

kind_told : (bytes : List ℕ) (n : ℕ) (hole : Bool) → Piece hole (node_at bytes n).kind → IsHole bytes n ⊎ IsBlock bytes n
kind_told bytes n hole (inl block) = inr block
kind_told bytes n hole (inr rest) = inl rest.0

pub kinds_told : (bytes : List ℕ) (before from : ℕ) (hole : Bool) (ns : List ℕ) → Fits bytes before from hole ns
    → All (λ n. IsHole bytes n ⊎ IsBlock bytes n) ns
kinds_told bytes before from hole [] h = all_none (λ n. IsHole bytes n ⊎ IsBlock bytes n)
kinds_told bytes before from hole (n ∷ ns) h =
    all_cons (λ m. IsHole bytes m ⊎ IsBlock bytes m) n ns (kind_told bytes n hole h.4) (kinds_told bytes n (from + (node_at bytes n).units) ((node_at bytes n).kind == 1) ns h.5)

pub linked_told : (bytes : List ℕ) (before from : ℕ) (hole : Bool) (ns : List ℕ) → Fits bytes before from hole ns → AreLinked bytes ns
linked_told bytes before from hole [] h = tt
linked_told bytes before from hole (n ∷ ns) h = (h.1, linked_told bytes n (from + (node_at bytes n).units) ((node_at bytes n).kind == 1) ns h.5)

pub back_told : (bytes : List ℕ) (before from : ℕ) (hole : Bool) (ns : List ℕ) → Fits bytes before from hole ns → AreLinkedBack bytes before ns
back_told bytes before from hole [] h = tt
back_told bytes before from hole (n ∷ ns) h = (h.0, back_told bytes n (from + (node_at bytes n).units) ((node_at bytes n).kind == 1) ns h.5)

pub cover_told : (bytes : List ℕ) (before from : ℕ) (hole : Bool) (ns : List ℕ) → Fits bytes before from hole ns → Cover bytes from ns
cover_told bytes before from hole [] h = h
cover_told bytes before from hole (n ∷ ns) h =
    (h.2, h.3, cover_told bytes n (from + (node_at bytes n).units) ((node_at bytes n).kind == 1) ns h.5)

-- behind a hole stands a block
abbrev pub AreJoined : List ℕ → List ℕ → Type 0
AreJoined bytes ns = (k : ℕ) → k + 1 < length ns → IsHole bytes (slice_index ns k) → IsBlock bytes (slice_index ns (k + 1))

block_behind : (bytes : List ℕ) (before n from : ℕ) → Piece ((node_at bytes before).kind == 1) (node_at bytes n).kind → IsHole bytes before → IsBlock bytes n
block_behind bytes before n from (inl block) hole = block
block_behind bytes before n from (inr rest) hole =
    let yes : ((node_at bytes before).kind == 1) ≡ true = eq-eqb (node_at bytes before).kind 1 hole in
    let never : true ≡ false = sym yes ∙ rest.1 in absurd (cc)

pub joined_told : (bytes : List ℕ) (before from : ℕ) (hole : Bool) (ns : List ℕ) → Fits bytes before from hole ns → AreJoined bytes ns
joined_told bytes before from hole [] h k inside is = absurd (omega (arith, inside))
joined_told bytes before from hole (n ∷ []) h k inside is = absurd (omega (arith, inside))
joined_told bytes before from hole (n ∷ m ∷ ns) h zero inside is = block_behind bytes n m from h.5.4 is
joined_told bytes before from hole (n ∷ m ∷ ns) h (suc k) inside is =
    let next : suc k + 1 ≡ suc (k + 1) = omega arith in
    subst (λ j. IsBlock bytes (slice_index (n ∷ m ∷ ns) j)) (sym next)
    (joined_told bytes n (from + (node_at bytes n).units) ((node_at bytes n).kind == 1) (m ∷ ns) h.5 k (omega (arith, inside)) is)

-- and the other way round
piece_of_kind : (bytes : List ℕ) (n : ℕ) (hole : Bool) → IsHole bytes n ⊎ IsBlock bytes n → (hole ≡ true → IsBlock bytes n) → Piece hole (node_at bytes n).kind
piece_of_kind bytes n hole (inr block) behind = inl block
piece_of_kind bytes n true (inl is) behind = inl (behind refl)
piece_of_kind bytes n false (inl is) behind = inr (is, refl)

first_joined : (bytes : List ℕ) (n : ℕ) (ns : List ℕ) → AreJoined bytes (n ∷ ns) → (k : ℕ) → k < length ns → k ≡ 0
    → ((node_at bytes n).kind == 1) ≡ true → IsBlock bytes (slice_index ns k)
first_joined bytes n ns joined k inside first hole =
    subst (λ j. IsBlock bytes (slice_index ns j)) (sym first)
    (joined 0 (omega (arith, inside, first)) (eqb-true (node_at bytes n).kind 1 hole))

abbrev pub StartsBehind : List ℕ → Bool → List ℕ → Type 0
StartsBehind bytes hole [] = Unit {0}
StartsBehind bytes hole (n ∷ ns) = hole ≡ true → IsBlock bytes n

starts_behind : (bytes : List ℕ) (n : ℕ) (ns : List ℕ) → AreJoined bytes (n ∷ ns) → StartsBehind bytes ((node_at bytes n).kind == 1) ns
starts_behind bytes n [] joined = tt
starts_behind bytes n (m ∷ ms) joined = λ hole. first_joined bytes n (m ∷ ms) joined 0 (omega arith) refl hole

joined_behind : (bytes : List ℕ) (n : ℕ) (ns : List ℕ) → AreJoined bytes (n ∷ ns) → AreJoined bytes ns
joined_behind bytes n ns joined k inside is =
    let next : suc k + 1 ≡ suc (k + 1) = omega arith in
    subst (λ j. IsBlock bytes (slice_index (n ∷ ns) j)) next (joined (suc k) (omega (arith, inside)) is)

pub all_fit : (bytes : List ℕ) (before from : ℕ) (hole : Bool) (ns : List ℕ) → All (λ n. IsHole bytes n ⊎ IsBlock bytes n) ns
    → AreLinked bytes ns → AreLinkedBack bytes before ns → Cover bytes from ns → AreJoined bytes ns → StartsBehind bytes hole ns
    → Fits bytes before from hole ns
all_fit bytes before from hole [] kinds linked back cover joined starts = cover
all_fit bytes before from hole (n ∷ ns) kinds linked back cover joined starts = (
  back.0,
  linked.0,
  cover.0,
  cover.1,
  piece_of_kind bytes n hole (all_head (λ m. IsHole bytes m ⊎ IsBlock bytes m) n ns kinds) starts,
  all_fit bytes n (from + (node_at bytes n).units) ((node_at bytes n).kind == 1) ns
      (all_tail (λ m. IsHole bytes m ⊎ IsBlock bytes m) n ns kinds) linked.1 back.1 cover.2 (joined_behind bytes n ns joined) (starts_behind bytes n ns joined),
)

-- ---- unused nodes

pub unused_told : (bytes : List ℕ) (ns : List ℕ) → fit_unused bytes ns ≡ true → All (IsUnused bytes) ns × AreLinked bytes ns
unfolding fit_unused
unused_told bytes [] e = (all_none (IsUnused bytes), tt)
unused_told bytes (n ∷ ns) e =
    let a = both_true ((node_at bytes n).kind == 0) _ e in
    let b = both_true ((node_at bytes n).next == first_of ns) _ a.1 in
    let rest = unused_told bytes ns b.1 in
    (all_cons (IsUnused bytes) n ns (eqb-true (node_at bytes n).kind 0 a.0) rest.0, (eqb-true (node_at bytes n).next (first_of ns) b.0, rest.1))

pub unused_tells : (bytes : List ℕ) (ns : List ℕ) → All (IsUnused bytes) ns → AreLinked bytes ns → fit_unused bytes ns ≡ true
unfolding fit_unused
unused_tells bytes [] kinds linked = refl
unused_tells bytes (n ∷ ns) kinds linked =
    and_is_true _ _ (eq-eqb (node_at bytes n).kind 0 (all_head (IsUnused bytes) n ns kinds))
    (and_is_true _ _ (eq-eqb (node_at bytes n).next (first_of ns) linked.0) (unused_tells bytes ns (all_tail (IsUnused bytes) n ns kinds) linked.1))

-- ---- counts, zeros and each once

count_if : (b : Bool) (c : ℕ) (xs ys : List Block) → c ≡ length ys → length xs ≡ length ys + 1
    → ((if b then 1 else 0) + c) ≡ length (if b then xs else ys)
count_if true c xs ys h k = omega (arith, h, k)
count_if false c xs ys h k = omega (arith, h)

pub count_is : (bytes : List ℕ) (kind : ℕ) (ns : List ℕ) → count_of bytes kind ns ≡ length (pieces_of 0 bytes kind ns)
unfolding count_of
count_is bytes kind [] = refl
count_is bytes kind (n ∷ ns) =
    count_if ((node_at bytes n).kind == kind) (count_of bytes kind ns) _ (pieces_of 0 bytes kind ns) (count_is bytes kind ns) (omega arith)

pub zero_told : (bytes : List ℕ) (at n : ℕ) → are_zero bytes at n ≡ true → (i : ℕ) → at ≤ i → i < at + n → slice_index bytes i ≡ 0
unfolding are_zero
zero_told bytes at zero e i low high = absurd (omega (arith, low, high))
zero_told bytes at (suc n) e i low high =
    let both = both_true (slice_index bytes at == 0) (are_zero bytes (at + 1) n) e in
    elim (cases_eq i at) [
      | inl same ↦ ap (slice_index bytes) same ∙ eqb-true (slice_index bytes at) 0 both.0
      | inr other ↦ zero_told bytes (at + 1) n both.1 i (omega (arith, low, other)) (omega (arith, high))
    ]

pub zero_tells : (bytes : List ℕ) (at n : ℕ) → ((i : ℕ) → at ≤ i → i < at + n → slice_index bytes i ≡ 0) → are_zero bytes at n ≡ true
unfolding are_zero
zero_tells bytes at zero h = refl
zero_tells bytes at (suc n) h =
    and_is_true _ _ (eq-eqb (slice_index bytes at) 0 (h at (omega arith) (omega arith)))
    (zero_tells bytes (at + 1) n (λ i low high. h i (omega (arith, low)) (omega (arith, high))))

pub once_told : (k : ℕ) (ns : List ℕ) → is_each_once k ns ≡ true → (n : ℕ) → n < k → times_in n ns ≡ 1
unfolding is_each_once
once_told zero ns e n below = absurd (omega (arith, below))
once_told (suc k) ns e n below =
    let both = both_true (times_in k ns == 1) (is_each_once k ns) e in
    elim (cases_eq n k) [
      | inl same ↦ ap (λ m. times_in m ns) same ∙ eqb-true (times_in k ns) 1 both.0
      | inr other ↦ once_told k ns both.1 n (omega (arith, below, other))
    ]

pub once_tells : (k : ℕ) (ns : List ℕ) → ((n : ℕ) → n < k → times_in n ns ≡ 1) → is_each_once k ns ≡ true
unfolding is_each_once
once_tells zero ns h = refl
once_tells (suc k) ns h =
    and_is_true _ _ (eq-eqb (times_in k ns) 1 (h k (omega arith))) (once_tells k ns (λ n below. h n (omega (arith, below))))

-- the number of three bytes is zero just where they are
three_are : (bytes : List ℕ) (at : ℕ)
    → number_at bytes at 3 ≡ slice_index bytes at + 256 * (slice_index bytes (at + 1) + 256 * slice_index bytes (at + 2))
unfolding number_at
three_are bytes at =
    let a : slice_index (drop at bytes) 0 ≡ slice_index bytes at = get_or-drop at bytes 0 0 ∙ ap (slice_index bytes) (omega arith) in
    let b : slice_index (drop at bytes) 1 ≡ slice_index bytes (at + 1) = get_or-drop at bytes 1 0 in
    let c : slice_index (drop at bytes) 2 ≡ slice_index bytes (at + 2) = get_or-drop at bytes 2 0 in
    omega (arith, a, b, c)

three_told : (bytes : List ℕ) (at : ℕ) → are_zero bytes at 3 ≡ true → number_at bytes at 3 ≡ 0
three_told bytes at e =
    omega (
      arith,
      three_are bytes at,
      zero_told bytes at 3 e at (omega arith) (omega arith),
      zero_told bytes at 3 e (at + 1) (omega arith) (omega arith),
      zero_told bytes at 3 e (at + 2) (omega arith) (omega arith),
    )

three_tells : (bytes : List ℕ) (at : ℕ) → number_at bytes at 3 ≡ 0 → are_zero bytes at 3 ≡ true
three_tells bytes at e =
    zero_tells bytes at 3 (λ i low high. three_cases i low high (omega (arith, three_are bytes at, e)) (omega (arith, three_are bytes at, e)) (omega (arith, three_are bytes at, e)))
  where
    three_cases : (i : ℕ) → at ≤ i → i < at + 3 → slice_index bytes at ≡ 0 → slice_index bytes (at + 1) ≡ 0 → slice_index bytes (at + 2) ≡ 0
        → slice_index bytes i ≡ 0
    three_cases i low high x y z =
        elim (cases_eq i at) [
          | inl same ↦ ap (slice_index bytes) same ∙ x
          | inr other ↦ elim (cases_eq i (at + 1)) [
            | inl same ↦ ap (slice_index bytes) same ∙ y
            | inr another ↦ ap (slice_index bytes) (omega (arith, low, high, other, another)) ∙ z
          ]
        ]

pub ends_told : (bytes : List ℕ) (k : ℕ) → end_in_zeros bytes k ≡ true → (n : ℕ) → n < k → (node_at bytes n).rest ≡ 0
unfolding end_in_zeros
ends_told bytes zero e n below = absurd (omega (arith, below))
ends_told bytes (suc k) e n below =
    let both = both_true (are_zero bytes (node_place k + 13) 3) (end_in_zeros bytes k) e in
    elim (cases_eq n k) [
      | inl same ↦ ap (λ m. (node_at bytes m).rest) same ∙ three_told bytes (node_place k + 13) both.0
      | inr other ↦ ends_told bytes k both.1 n (omega (arith, below, other))
    ]

pub ends_tells : (bytes : List ℕ) (k : ℕ) → ((n : ℕ) → n < k → (node_at bytes n).rest ≡ 0) → end_in_zeros bytes k ≡ true
unfolding end_in_zeros
ends_tells bytes zero h = refl
ends_tells bytes (suc k) h =
    and_is_true _ _ (three_tells bytes (node_place k + 13) (h k (omega arith))) (ends_tells bytes k (λ n below. h n (omega (arith, below))))
