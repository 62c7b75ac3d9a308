-- The heap before any block was taken.
use Rattle.std.proofs.Common.{◌≡◌, ℕ, zero, suc, ◌+◌, ◌<◌, ◌≤◌, inl, inr, Bool, List, [], ◌∷◌, ◌++◌, ◌∙◌, ◌*◌, slice_index, drop, refl, sym, ap, subst, arith}
use Rattle.std.proofs.lemmas.Bool.{cases_eq, lt-ltb, le-ltb}
use Rattle.std.proofs.lemmas.List.{get_or-drop}
use Rattle.rank_range.specs.Layout.{descriptors_start, globals_start}
use Rattle.rank_range.specs.Numbers.{number_at}
use Rattle.rank_range.specs.Nodes.{Node, node_at, node_count, node_place, no_node, heap_units, times_in, SpellsBlocks}
use Rattle.isomalloc.specs.Heap.{IsCleared}
use Rattle.isomalloc.specs.declared.nodes.Entry.{Entry}
use Rattle.isomalloc.specs.declared.nodes.Header.{Header}
use Rattle.rank_range.specs.Parts.{StayBeside, Keeps}
use Rattle.isomalloc.specs.Entries.{NodesAre, header_of, node_of, fresh_entry, with_node}
use Rattle.rank_range.proofs.NumberLemmas.{same_bytes}
use Rattle.rank_range.proofs.ChangeLemmas.{node_stays, beside_both, keeps_both, keeps_none}
use Rattle.isomalloc.proofs.Bytes.{with_node-here, with_node-other}
use Rattle.isomalloc.proofs.Shape.{first_or, IsLink, Segment, IsSpare, Spare, NoTwo, single, single_here, single_other}
use Rattle.isomalloc.proofs.Sound.{Linked, IsRestZero, from_linked, spells}
use Rattle.isomalloc.proofs.Blocks.{blocks_hole}

-- so many numbers from n on
upto : ℕ → ℕ → List ℕ
upto n zero = []
upto n (suc count) = n ∷ upto (n + 1) count

abbrev fresh_node : ℕ → Node
fresh_node number = node_of (fresh_entry number) 0

abbrev AreFresh : (ℕ → Node) → Type 0
AreFresh nodes = (k : ℕ) → 1 ≤ k → k < node_count → nodes k ≡ fresh_node k

upto_first : (n count : ℕ) → n + suc count ≡ node_count → (fresh_node n).next ≡ first_or no_node (upto (n + 1) count)
unfolding upto
upto_first n zero end = rw (le-ltb (n + 1) node_count (omega (arith, end))) refl
upto_first n (suc count) end = rw (lt-ltb (n + 1) node_count (omega (arith, end))) refl

upto_spare : (nodes : ℕ → Node) (n count : ℕ) → AreFresh nodes → 1 ≤ n → n + count ≡ node_count → Spare nodes (upto n count)
unfolding upto
upto_spare nodes n zero fresh low end = tt
upto_spare nodes n (suc count) fresh low end =
    let e = fresh n low (omega (arith, end)) in
    let link : IsSpare (fresh_node n) (first_or no_node (upto (n + 1) count)) n =
    record { below = omega (arith, end); kind = refl; next = upto_first n count end } in
    let P : Node → Type 0 = λ node. IsSpare node (first_or no_node (upto (n + 1) count)) n in
    (subst P (sym e) link, upto_spare nodes (n + 1) count fresh (omega (arith, low)) (omega (arith, end)))

upto_below : (n count k : ℕ) → k < n → times_in k (upto n count) ≡ 0
unfolding upto
upto_below n zero k low = refl
upto_below n (suc count) k low =
    let rest = upto_below (n + 1) count k (omega (arith, low)) in
    let none = single_other k n (λ e. omega (arith, e, low)) in
    omega (arith, rest, none)

upto_once : (n count k : ℕ) → n ≤ k → k < n + count → times_in k (upto n count) ≡ 1
unfolding upto
upto_once n zero k low high = absurd (omega (arith, low, high))
upto_once n (suc count) k low high =
    elim (cases_eq k n) [
      | inl same ↦ let one = single_here k n same in let rest = upto_below (n + 1) count k (omega (arith, same)) in omega (arith, one, rest)
      | inr other ↦ let none = single_other k n other in
          let rest = upto_once (n + 1) count k (omega (arith, low, other)) (omega (arith, high)) in omega (arith, none, rest)
    ]

abbrev whole_node : Node
whole_node = record { start = 0; units = 24576; previous = 65535; next = 65535; kind = 1; rest = 0 }

-- What the nodes are before any block was taken.
pub record IsFresh (bytes : List ℕ) : Type 0 where
  pub first : node_at bytes 0 ≡ whole_node
  pub others : AreFresh (node_at bytes)
  pub header : header_of bytes ≡ record { first = 0; unused = 1; blocks = 0; holes = 1 }
  pub zeros : IsRestZero bytes

first_spare : (count : ℕ) → 1 ≤ count → first_or no_node (upto 1 count) ≡ 1
unfolding upto
first_spare zero some = absurd (omega (arith, some))
first_spare (suc count) some = refl

fresh_for : (rank : ℕ) (bytes : List ℕ) → IsFresh bytes → (count : ℕ) → 1 + count ≡ node_count → SpellsBlocks rank bytes []
fresh_for rank bytes f count end =
    let nodes = node_at bytes in
    let used : List ℕ = 0 ∷ [] in
    let unused = upto 1 count in
    let hole : (nodes 0).kind ≡ 1 = ap (λ (n : Node). n.kind) f.first in
    let units : (nodes 0).units ≡ 24576 = ap (λ (n : Node). n.units) f.first in
    let link : IsLink whole_node no_node 0 no_node 0 = record {
      below = omega arith;
      start = refl;
      some = omega arith;
      previous = refl;
      next = refl;
      kind = inl refl;
    } in
    let P : Node → Type 0 = λ n. IsLink n no_node 0 no_node 0 in
    let chain : Segment nodes no_node 0 no_node heap_units used = (subst P (sym f.first) link, omega (arith, units)) in
    let once : (k : ℕ) → k < node_count → times_in k (used ++ unused) ≡ 1 =
    λ k below. elim (cases_eq k 0) [
      | inl same ↦ let one = single_here k 0 same in let rest = upto_below 1 count k (omega (arith, same)) in omega (arith, one, rest)
      | inr other ↦ let none = single_other k 0 other in
          let rest = upto_once 1 count k (omega (arith, other)) (omega (arith, below, end)) in omega (arith, none, rest)
    ] in
    let rest : (k : ℕ) → k < node_count → (nodes k).rest ≡ 0 =
    λ k below. elim (cases_eq k 0) [
      | inl same ↦ ap (λ (i : ℕ). (nodes i).rest) same ∙ ap (λ (n : Node). n.rest) f.first
      | inr other ↦ ap (λ (n : Node). n.rest) (f.others k (omega (arith, other)) below)
    ] in
    let blocks : single (nodes 0).kind 2 ≡ 0 = ap (λ (k : ℕ). single k 2) hole in
    let holes : single (nodes 0).kind 1 ≡ 1 = ap (λ (k : ℕ). single k 1) hole in
    let next : Header = record { first = 0; unused = 1; blocks = 0; holes = 1 } in
    let linked : Linked nodes next used unused = record {
      heap = record { chain = chain; spare = upto_spare nodes 1 count f.others (omega arith) end; once = once; rest = rest };
      first = refl;
      spare = sym (first_spare count (omega (arith, end)));
      blocks = omega (arith, blocks);
      holes = omega (arith, holes);
      few = omega arith;
    } in
    let H : Header → Type 0 = λ h. Linked nodes h used unused in
    let none : NoTwo nodes 2 used = (λ e. absurd (omega (arith, e)), tt) in
    let sound = from_linked bytes used unused (subst H (sym f.header) linked) none f.zeros in
    spells rank bytes [] used unused sound (sym (blocks_hole rank nodes 0 [] hole))

pub fresh_spells : (rank : ℕ) (bytes : List ℕ) → IsFresh bytes → SpellsBlocks rank bytes []
fresh_spells rank bytes f = fresh_for rank bytes f 8000 refl

-- where the descriptors are zero, the rest of a node is
zero_rest : (bytes : List ℕ) (k : ℕ) → k < node_count → IsCleared bytes → (node_at bytes k).rest ≡ 0
unfolding number_at
zero_rest bytes k small cleared =
    same_bytes 0 3 (drop (node_place k + 13) bytes) []
    (λ j below.
    let place : node_place k + 13 + j ≡ descriptors_start + (16 * k + 13 + j) = omega arith in
    get_or-drop (node_place k + 13) bytes j 0 ∙ ap (slice_index bytes) place
    ∙ cleared.nodes (16 * k + 13 + j) (omega (arith, small, below)))

-- The unused nodes below a number are written.
pub record Written (old_rank new_rank old_top new_top : ℕ) (old new : List ℕ) (old_marks new_marks : ℕ → Bool) (number : ℕ) : Type 0 where
  pub fresh : (k : ℕ) → 1 ≤ k → k < number → k < node_count → node_at new k ≡ fresh_node k
  pub rest : (k : ℕ) → k < node_count → (node_at new k).rest ≡ 0
  pub beside : StayBeside old new descriptors_start globals_start
  pub kept : Keeps old_rank new_rank old_top new_top old new old_marks new_marks

pub written_none : (r i : ℕ) (bytes : List ℕ) (marks : ℕ → Bool) → IsCleared bytes → Written r r i i bytes bytes marks marks 1
written_none r i bytes marks cleared = record {
  fresh = λ k low below small. absurd (omega (arith, low, below));
  rest = λ k below. zero_rest bytes k below cleared;
  beside = record { at = λ n apart. refl };
  kept = keeps_none r i bytes marks;
}

-- the rest of a node stays zero
rest_after : (mid new : List ℕ) (number : ℕ) (entry : Entry) → NodesAre new (with_node number (node_of entry (node_at mid number).rest) (node_at mid))
    → number < node_count → ((k : ℕ) → k < node_count → (node_at mid k).rest ≡ 0) → (k : ℕ) → k < node_count → (node_at new k).rest ≡ 0
rest_after mid new number entry are below zeros k small =
    let node = node_of entry (node_at mid number).rest in
    elim (cases_eq k number) [
      | inl same ↦ ap (λ (n : Node). n.rest) (are.at k small ∙ with_node-here number node (node_at mid) k same) ∙ zeros number below
      | inr other ↦ ap (λ (n : Node). n.rest) (are.at k small ∙ with_node-other number node (node_at mid) k other) ∙ zeros k small
    ]

node_here : (mid new : List ℕ) (number : ℕ) (entry : Entry) → NodesAre new (with_node number (node_of entry (node_at mid number).rest) (node_at mid))
    → number < node_count → (node_at mid number).rest ≡ 0 → node_at new number ≡ node_of entry 0
node_here mid new number entry are below zero_rest =
    are.at number below ∙ with_node-here number (node_of entry (node_at mid number).rest) (node_at mid) number refl
    ∙ ap (node_of entry) zero_rest

pub written_more : (r s t i j k : ℕ) (old mid new : List ℕ) (old_marks mid_marks new_marks : ℕ → Bool) (number : ℕ) (entry : Entry)
    → entry ≡ fresh_entry number → number < node_count
    → Written r s i j old mid old_marks mid_marks number
    → NodesAre new (with_node number (node_of entry (node_at mid number).rest) (node_at mid))
    → StayBeside mid new descriptors_start globals_start
    → Keeps s t j k mid new mid_marks new_marks
    → Written r t i k old new old_marks new_marks (number + 1)
written_more r s t i j k old mid new old_marks mid_marks new_marks number entry is below before are stay kept = record {
  fresh = λ n low high small.
      elim (cases_eq n number) [
        | inl same ↦ ap (node_at new) same ∙ node_here mid new number entry are below (before.rest number below)
            ∙ ap (λ (e : Entry). node_of e 0) is ∙ ap fresh_node (sym same)
        | inr other ↦ are.at n small ∙ with_node-other number (node_of entry (node_at mid number).rest) (node_at mid) n other
            ∙ before.fresh n low (omega (arith, high, other)) small
      ];
  rest = rest_after mid new number entry are below before.rest;
  beside = beside_both old mid new descriptors_start globals_start before.beside stay;
  kept = keeps_both r s t i j k old mid new old_marks mid_marks new_marks before.kept kept;
}

-- the first node and the header are written behind the unused nodes
pub fresh_done : (r s i j : ℕ) (old mid after new : List ℕ) (old_marks mid_marks : ℕ → Bool) (number : ℕ) → IsCleared old → node_count ≤ number
    → Written r s i j old mid old_marks mid_marks number
    → NodesAre after (with_node 0 (record {
      start = 0;
      units = 24576;
      previous = 65535;
      next = 65535;
      kind = 1;
      rest = (node_at mid 0).rest;
    }) (node_at mid))
    → StayBeside mid after descriptors_start globals_start → StayBeside after new 0 16
    → header_of new ≡ record { first = 0; unused = 1; blocks = 0; holes = 1 } → IsFresh new
fresh_done r s i j old mid after new old_marks mid_marks number cleared end w are stay last header =
    let whole : Entry = record { start = 0; units = 24576; previous = 65535; next = 65535; kind = 1 } in
    record {
      first = node_stays after new 0 16 0 last (inr (omega arith)) ∙ node_here mid after 0 whole are (omega arith) (w.rest 0 (omega arith));
      others = λ k low small.
          node_stays after new 0 16 k last (inr (omega arith)) ∙ are.at k small
          ∙ with_node-other 0 (node_of whole (node_at mid 0).rest) (node_at mid) k (λ e. omega (arith, e, low))
          ∙ w.fresh k low (omega (arith, small, end)) small;
      header = header;
      zeros = λ at low high.
          last.at at (inr low) ∙ stay.at at (inl (omega (arith, high))) ∙ w.beside.at at (inl (omega (arith, high))) ∙ cleared.header at high;
    }
