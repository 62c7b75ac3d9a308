-- The test of a heap is the relation that it stands for.
use Rattle.std.proofs.Common.{◌≡◌, ◌∙◌, ◌+◌, ◌<◌, ◌≤◌, ◌⊎◌, ◌↔◌, ℕ, zero, suc, Bool, true, false, ◌&&◌, ◌==◌, nat_lt, nat_le, if◌then◌else◌, List, [], ◌∷◌, ◌++◌, length, All, refl, sym, ap, subst, inl, inr, arith, length-append}
use Rattle.std.specs.Prelude.{slice_index}
use Rattle.std.proofs.lemmas.Bool.{eqb-true, eq-eqb, cases_eq, leb-true, le-leb, lt-ltb, ltb-true, ne_eqb}
use Rattle.byte_formats.specs.FormatLaws.{both_true, and_is_true}
use Rattle.rank_range.specs.Heap.{most_blocks}
use Rattle.rank_range.specs.Nodes.{node_count, no_node, heap_units, first_node, first_unused, live_blocks, hole_count, node_at, first_of, times_in, chain_of, AreLinked, Cover, pieces_of, IsSoundHeap}
use Rattle.rank_image.specs.HeapTest.{used_of, unused_of, fit_used, fit_unused, count_of, is_each_once, are_zero, end_in_zeros, fits_header, fit_nodes, is_sound_heap}
use Rattle.rank_image.specs.Sound.{HasNodes, HeapIsTested}
use Rattle.rank_image.proofs.Orderly.{all_none, all_cons}
use Rattle.rank_image.proofs.Counts.{times_append}
use Rattle.rank_image.proofs.HeapTests.{all_head, all_tail, Fits, fit_told, fit_tells, kinds_told, linked_told, back_told, cover_told, joined_told, all_fit, StartsBehind, unused_told, unused_tells, count_is, zero_told, zero_tells, once_told, once_tells, ends_told, ends_tells}

-- the nodes of a chain are nodes
chain_below_if : (bytes : List ℕ) (n : ℕ) (b : Bool) (ns : List ℕ) → nat_lt n node_count ≡ b → All (λ m. m < node_count) ns
    → All (λ m. m < node_count) (if b then n ∷ ns else [])
chain_below_if bytes n true ns e rest = all_cons (λ m. m < node_count) n ns (ltb-true n node_count e) rest
chain_below_if bytes n false ns e rest = all_none (λ m. m < node_count)

chain_below : (bytes : List ℕ) (k n : ℕ) → All (λ m. m < node_count) (chain_of bytes k n)
chain_below bytes zero n = all_none (λ m. m < node_count)
chain_below bytes (suc k) n =
    chain_below_if bytes n (nat_lt n node_count) (chain_of bytes k (node_at bytes n).next) refl (chain_below bytes k (node_at bytes n).next)

-- linked nodes are the chain of the first of them
chain_is : (bytes : List ℕ) (ns : List ℕ) (k n : ℕ) → AreLinked bytes ns → All (λ m. m < node_count) ns → length ns ≤ k → n ≡ first_of ns → chain_of bytes k n ≡ ns
chain_is bytes [] zero n linked below few first = refl
chain_is bytes [] (suc k) n linked below few first = ap (chain_of bytes (suc k)) first
chain_is bytes (m ∷ ms) zero n linked below few first = absurd (omega (arith, few))
chain_is bytes (m ∷ ms) (suc k) n linked below few first =
    let yes : nat_lt m node_count ≡ true = lt-ltb m node_count (all_head (λ j. j < node_count) m ms below) in
    ap (chain_of bytes (suc k)) first
    ∙ rw yes (ap (λ js. m ∷ js) (chain_is bytes ms k (node_at bytes m).next linked.1 (all_tail (λ j. j < node_count) m ms below) (omega (arith, few)) linked.0))

covered : (bytes : List ℕ) (from : ℕ) (ns : List ℕ) → Cover bytes from ns → from + length ns ≤ heap_units
covered bytes from [] cover = let e : from ≡ heap_units = cover in omega (arith, e)
covered bytes from (n ∷ ns) cover = omega (arith, covered bytes (from + (node_at bytes n).units) ns cover.2, cover.1)

-- how often the numbers below k stand in a list
abbrev pub tally : ℕ → List ℕ → ℕ
tally zero ns = 0
tally (suc k) ns = times_in k ns + tally k ns

tally_none : (k : ℕ) → tally k [] ≡ 0
tally_none zero = refl
tally_none (suc k) = omega (arith, tally_none k)

abbrev pub one_if : (k n : ℕ) → ℕ
one_if k n = if k == n then 1 else 0

abbrev pub below_once : ℕ → ℕ → ℕ
below_once zero n = 0
below_once (suc k) n = one_if k n + below_once k n

tally_cons : (k n : ℕ) (ns : List ℕ) → tally k (n ∷ ns) ≡ below_once k n + tally k ns
tally_cons zero n ns = refl
tally_cons (suc k) n ns = omega (arith, tally_cons k n ns)

same_one : (k n : ℕ) → k ≡ n → one_if k n ≡ 1
same_one k n e = rw (eq-eqb k n e) refl

other_none : (k n : ℕ) → (k ≡ n → ⊥) → one_if k n ≡ 0
other_none k n h = rw (ne_eqb k n h) refl

above_none : (k n : ℕ) → k ≤ n → below_once k n ≡ 0
above_none zero n h = refl
above_none (suc k) n h = omega (arith, above_none k n (omega (arith, h)), other_none k n (λ e. omega (arith, e, h)))

below_one : (k n : ℕ) → n < k → below_once k n ≡ 1
below_one zero n h = absurd (omega (arith, h))
below_one (suc k) n h =
    elim (cases_eq k n) [
      | inl same ↦ omega (arith, same_one k n same, above_none k n (omega (arith, same)))
      | inr other ↦ omega (arith, other_none k n other, below_one k n (omega (arith, h, other)))
    ]

tally_length : (k : ℕ) (ns : List ℕ) → All (λ n. n < k) ns → tally k ns ≡ length ns
tally_length k [] all = tally_none k
tally_length k (n ∷ ns) all =
    omega (arith, tally_cons k n ns, below_one k n (all_head (λ m. m < k) n ns all), tally_length k ns (all_tail (λ m. m < k) n ns all))

tally_once : (k : ℕ) (ns : List ℕ) → ((n : ℕ) → n < k → times_in n ns ≤ 1) → tally k ns ≤ k
tally_once zero ns h = omega arith
tally_once (suc k) ns h = omega (arith, h k (omega arith), tally_once k ns (λ n below. h n (omega (arith, below))))

-- no more numbers below k than k, each once
few_once : (k : ℕ) (ns : List ℕ) → All (λ n. n < k) ns → ((n : ℕ) → n < k → times_in n ns ≤ 1) → length ns ≤ k
few_once k ns below once = omega (arith, tally_length k ns below, tally_once k ns once)

-- what the test tells
heap_told : (bytes : List ℕ) → is_sound_heap bytes ≡ true → HasNodes bytes
unfolding is_sound_heap used_of unused_of
heap_told bytes e =
    let used = chain_of bytes heap_units (first_node bytes) in
    let unused = chain_of bytes node_count (first_unused bytes) in
    let whole = both_true (fits_header bytes used unused) (fit_nodes bytes used unused) e in
    let h1 = both_true (first_node bytes == first_of used) _ whole.0 in
    let h2 = both_true (first_unused bytes == first_of unused) _ h1.1 in
    let h3 = both_true (live_blocks bytes == count_of bytes 2 used) _ h2.1 in
    let h4 = both_true (hole_count bytes == count_of bytes 1 used) _ h3.1 in
    let h5 = both_true (nat_le (live_blocks bytes) most_blocks) _ h4.1 in
    let n1 = both_true (fit_used bytes no_node 0 false used) _ whole.1 in
    let n2 = both_true (fit_unused bytes unused) _ n1.1 in
    let n3 = both_true (is_each_once node_count (used ++ unused)) _ n2.1 in
    let fits = fit_told bytes no_node 0 false used n1.0 in
    let spare = unused_told bytes unused n2.0 in (
      used,
      unused,
      record {
        used_below = chain_below bytes heap_units (first_node bytes);
        unused_below = chain_below bytes node_count (first_unused bytes);
        each_once = once_told node_count (used ++ unused) n3.0;
        first = eqb-true (first_node bytes) (first_of used) h1.0;
        unused_first = eqb-true (first_unused bytes) (first_of unused) h2.0;
        blocks = eqb-true (live_blocks bytes) (count_of bytes 2 used) h3.0 ∙ count_is bytes 2 used;
        holes = eqb-true (hole_count bytes) (count_of bytes 1 used) h4.0 ∙ count_is bytes 1 used;
        few = leb-true (live_blocks bytes) most_blocks h5.0;
        header_rest = λ at low high. zero_told bytes 16 4080 h5.1 at low (omega (arith, high));
        node_rest = ends_told bytes node_count n3.1;
        used_kind = kinds_told bytes no_node 0 false used fits;
        unused_kind = spare.0;
        linked = linked_told bytes no_node 0 false used fits;
        linked_back = back_told bytes no_node 0 false used fits;
        unused_linked = spare.1;
        cover = cover_told bytes no_node 0 false used fits;
        joined = joined_told bytes no_node 0 false used fits;
      },
    )

-- and what makes it tell so
first_starts : (bytes : List ℕ) (ns : List ℕ) → StartsBehind bytes false ns
first_starts bytes [] = tt
first_starts bytes (n ∷ ns) = λ never. absurd (cc)

heap_tells : (bytes : List ℕ) → HasNodes bytes → is_sound_heap bytes ≡ true
unfolding is_sound_heap used_of unused_of
heap_tells bytes h =
    let used = h.0 in
    let unused = h.1 in
    let s = h.2 in
    let short : length used ≤ heap_units = omega (arith, covered bytes 0 used s.cover) in
    let few : length unused ≤ node_count =
    few_once node_count unused s.unused_below (λ n below. omega (arith, s.each_once n below, times_append n used unused)) in
    let used_is : chain_of bytes heap_units (first_node bytes) ≡ used = chain_is bytes used heap_units (first_node bytes) s.linked s.used_below short s.first in
    let unused_is : chain_of bytes node_count (first_unused bytes) ≡ unused =
    chain_is bytes unused node_count (first_unused bytes) s.unused_linked s.unused_below few s.unused_first in
    let header : fits_header bytes used unused ≡ true =
    and_is_true _ _ (eq-eqb (first_node bytes) (first_of used) s.first)
    (and_is_true _ _ (eq-eqb (first_unused bytes) (first_of unused) s.unused_first)
    (and_is_true _ _ (eq-eqb (live_blocks bytes) (count_of bytes 2 used) (s.blocks ∙ sym (count_is bytes 2 used)))
    (and_is_true _ _ (eq-eqb (hole_count bytes) (count_of bytes 1 used) (s.holes ∙ sym (count_is bytes 1 used)))
    (and_is_true _ _ (le-leb (live_blocks bytes) most_blocks s.few)
    (zero_tells bytes 16 4080 (λ at low high. s.header_rest at low (omega (arith, high)))))))) in
    let nodes : fit_nodes bytes used unused ≡ true =
    and_is_true _ _ (fit_tells bytes no_node 0 false used (all_fit bytes no_node 0 false used s.used_kind s.linked s.linked_back s.cover s.joined (first_starts bytes used)))
    (and_is_true _ _ (unused_tells bytes unused s.unused_kind s.unused_linked)
    (and_is_true _ _ (once_tells node_count (used ++ unused) s.each_once) (ends_tells bytes node_count s.node_rest))) in
    ap (λ us. fits_header bytes us (chain_of bytes node_count (first_unused bytes)) && fit_nodes bytes us (chain_of bytes node_count (first_unused bytes))) used_is
    ∙ ap (λ us. fits_header bytes used us && fit_nodes bytes used us) unused_is
    ∙ and_is_true _ _ header nodes

pub heap_is_tested : HeapIsTested
heap_is_tested bytes = (heap_told bytes, heap_tells bytes)
