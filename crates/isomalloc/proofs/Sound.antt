-- Between a sound heap in bytes and its chains of nodes.
use Rattle.std.proofs.Common.{◌≡◌, ℕ, zero, suc, ◌+◌, ◌<◌, ◌≤◌, ◌==◌, ◌⊎◌, Bool, true, false, if◌then◌else◌, inl, inr, List, [], ◌∷◌, ◌∙◌, length, slice_index, refl, sym, ap, subst, arith}
use Rattle.std.specs.List.{All}
use Rattle.std.proofs.lemmas.List.Elements.{All-head, All-tail, All-cons, All-nil}
use Rattle.rank_range.specs.Nodes.{Node, node_at, node_count, no_node, heap_units, IsSoundHeap, SpellsBlocks, IsUnused, IsHole, IsBlock, AreLinked, AreLinkedBack, Cover, first_of, pieces_of}
use Rattle.rank_range.specs.Heap.{most_blocks}
use Rattle.rank_range.specs.declared.heap.Block.{Block}
use Rattle.rank_range.proofs.HeapLemmas.{one_chain}
use Rattle.isomalloc.specs.declared.nodes.Header.{Header}
use Rattle.isomalloc.specs.Heap.{BytesStay}
use Rattle.isomalloc.specs.Entries.{NodesAre, header_of}
use Rattle.isomalloc.proofs.Shape.{first_or, IsLink, Segment, IsSpare, Spare, IsHeapOf, NoTwo, count_of, piece, blocks_of, alike_same, segment_below, SameIn, segment_same, spare_same, AlikeIn, count_alike}

first_of-is : (xs : List ℕ) → first_of xs ≡ first_or no_node xs
first_of-is [] = refl
first_of-is (x ∷ xs) = refl

to_segment : (bytes : List ℕ) (before from : ℕ) (xs : List ℕ) → All (λ n. n < node_count) xs
    → All (λ n. IsHole bytes n ⊎ IsBlock bytes n) xs → AreLinked bytes xs → AreLinkedBack bytes before xs → Cover bytes from xs
    → Segment (node_at bytes) before from no_node heap_units xs
to_segment bytes before from [] below kinds linked back cover = cover
to_segment bytes before from (x ∷ xs) below kinds linked back cover =
    let link : IsLink (node_at bytes x) before from (first_or no_node xs) x = record {
      below = All-head (λ n. n < node_count) x xs below;
      start = cover.0;
      some = cover.1;
      previous = back.0;
      next = linked.0 ∙ first_of-is xs;
      kind = All-head (λ n. IsHole bytes n ⊎ IsBlock bytes n) x xs kinds;
    } in (
      link,
      to_segment bytes x (from + (node_at bytes x).units) xs (All-tail (λ n. n < node_count) x xs below)
          (All-tail (λ n. IsHole bytes n ⊎ IsBlock bytes n) x xs kinds) linked.1 back.1 cover.2,
    )

to_spare : (bytes xs : List ℕ) → All (λ n. n < node_count) xs → All (IsUnused bytes) xs → AreLinked bytes xs → Spare (node_at bytes) xs
to_spare bytes [] below kinds linked = tt
to_spare bytes (x ∷ xs) below kinds linked =
    let link : IsSpare (node_at bytes x) (first_or no_node xs) x = record {
      below = All-head (λ n. n < node_count) x xs below;
      kind = All-head (IsUnused bytes) x xs kinds;
      next = linked.0 ∙ first_of-is xs;
    } in
    (link, to_spare bytes xs (All-tail (λ n. n < node_count) x xs below) (All-tail (IsUnused bytes) x xs kinds) linked.1)

-- A fact between each node and the one behind it.
abbrev Joined : List ℕ → List ℕ → Type 0
Joined bytes xs = (k : ℕ) → k + 1 < length xs → IsHole bytes (slice_index xs k) → IsBlock bytes (slice_index xs (k + 1))

joined_tail : (bytes : List ℕ) (x : ℕ) (xs : List ℕ) → Joined bytes (x ∷ xs) → Joined bytes xs
joined_tail bytes x xs joined k within hole =
    let P : ℕ → Type 0 = λ i. IsHole bytes (slice_index (x ∷ xs) i) → IsBlock bytes (slice_index (x ∷ xs) (i + 1)) in
    let Q : ℕ → Type 0 = λ i. IsBlock bytes (slice_index (x ∷ xs) i) in
    subst Q (let e : suc k + 1 ≡ suc (k + 1) = omega arith in e) (joined (suc k) (omega (arith, within)) hole)

to_no_two : (bytes : List ℕ) (before : ℕ) (xs : List ℕ) → ((k : ℕ) → k < length xs → before ≡ 1 → IsBlock bytes (slice_index xs 0))
    → Joined bytes xs → NoTwo (node_at bytes) before xs
to_no_two bytes before [] first joined = tt
to_no_two bytes before (x ∷ xs) first joined =
    let Q : ℕ → Type 0 = λ i. IsBlock bytes (slice_index (x ∷ xs) i) in (
      λ hole. first 0 (omega arith) hole,
      to_no_two bytes (node_at bytes x).kind xs
          (λ k within hole. subst Q (let e : 0 + 1 ≡ suc 0 = omega arith in e) (joined 0 (omega (arith, within)) hole))
          (joined_tail bytes x xs joined),
    )

from_segment_below : (bytes : List ℕ) (before from : ℕ) (xs : List ℕ) → Segment (node_at bytes) before from no_node heap_units xs
    → All (λ n. n < node_count) xs
from_segment_below bytes before from [] chain = All-nil (λ n. n < node_count)
from_segment_below bytes before from (x ∷ xs) chain =
    All-cons (λ n. n < node_count) x xs chain.0.below (from_segment_below bytes x (from + (node_at bytes x).units) xs chain.1)

from_segment_kind : (bytes : List ℕ) (before from : ℕ) (xs : List ℕ) → Segment (node_at bytes) before from no_node heap_units xs
    → All (λ n. IsHole bytes n ⊎ IsBlock bytes n) xs
from_segment_kind bytes before from [] chain = All-nil (λ n. IsHole bytes n ⊎ IsBlock bytes n)
from_segment_kind bytes before from (x ∷ xs) chain =
    All-cons (λ n. IsHole bytes n ⊎ IsBlock bytes n) x xs chain.0.kind (from_segment_kind bytes x (from + (node_at bytes x).units) xs chain.1)

from_segment_linked : (bytes : List ℕ) (before from : ℕ) (xs : List ℕ) → Segment (node_at bytes) before from no_node heap_units xs
    → AreLinked bytes xs
from_segment_linked bytes before from [] chain = tt
from_segment_linked bytes before from (x ∷ xs) chain =
    (chain.0.next ∙ sym (first_of-is xs), from_segment_linked bytes x (from + (node_at bytes x).units) xs chain.1)

from_segment_back : (bytes : List ℕ) (before from : ℕ) (xs : List ℕ) → Segment (node_at bytes) before from no_node heap_units xs
    → AreLinkedBack bytes before xs
from_segment_back bytes before from [] chain = tt
from_segment_back bytes before from (x ∷ xs) chain =
    (chain.0.previous, from_segment_back bytes x (from + (node_at bytes x).units) xs chain.1)

from_segment_cover : (bytes : List ℕ) (before from : ℕ) (xs : List ℕ) → Segment (node_at bytes) before from no_node heap_units xs
    → Cover bytes from xs
from_segment_cover bytes before from [] chain = chain
from_segment_cover bytes before from (x ∷ xs) chain =
    (chain.0.start, chain.0.some, from_segment_cover bytes x (from + (node_at bytes x).units) xs chain.1)

from_spare_below : (bytes xs : List ℕ) → Spare (node_at bytes) xs → All (λ n. n < node_count) xs
from_spare_below bytes [] chain = All-nil (λ n. n < node_count)
from_spare_below bytes (x ∷ xs) chain = All-cons (λ n. n < node_count) x xs chain.0.below (from_spare_below bytes xs chain.1)

from_spare_kind : (bytes xs : List ℕ) → Spare (node_at bytes) xs → All (IsUnused bytes) xs
from_spare_kind bytes [] chain = All-nil (IsUnused bytes)
from_spare_kind bytes (x ∷ xs) chain = All-cons (IsUnused bytes) x xs chain.0.kind (from_spare_kind bytes xs chain.1)

from_spare_linked : (bytes xs : List ℕ) → Spare (node_at bytes) xs → AreLinked bytes xs
from_spare_linked bytes [] chain = tt
from_spare_linked bytes (x ∷ xs) chain = (chain.0.next ∙ sym (first_of-is xs), from_spare_linked bytes xs chain.1)

from_no_two : (bytes : List ℕ) (before : ℕ) (xs : List ℕ) → NoTwo (node_at bytes) before xs → Joined bytes xs
from_no_two bytes before [] none k within hole = absurd (omega (arith, within))
from_no_two bytes before (x ∷ []) none k within hole = absurd (omega (arith, within))
from_no_two bytes before (x ∷ y ∷ ys) none zero within hole =
    let Q : ℕ → Type 0 = λ i. IsBlock bytes (slice_index (x ∷ y ∷ ys) i) in
    subst Q (let e : suc 0 ≡ 0 + 1 = omega arith in e) (none.1.0 hole)
from_no_two bytes before (x ∷ y ∷ ys) none (suc k) within hole =
    let Q : ℕ → Type 0 = λ i. IsBlock bytes (slice_index (x ∷ y ∷ ys) i) in
    subst Q (let e : suc (k + 1) ≡ suc k + 1 = omega arith in e)
    (from_no_two bytes (node_at bytes x).kind (y ∷ ys) none.1 k (omega (arith, within)) hole)

pub pieces_count : (rank : ℕ) (bytes : List ℕ) (kind : ℕ) (xs : List ℕ) → length (pieces_of rank bytes kind xs) ≡ count_of (node_at bytes) kind xs
pieces_count rank bytes kind [] = refl
pieces_count rank bytes kind (x ∷ xs) =
    let rest = pieces_count rank bytes kind xs in
    let cases : (b : Bool) (p : Block) (ps : List Block) (n : ℕ) → length ps ≡ n → length (if b then p ∷ ps else ps) ≡ (if b then 1 else 0) + n =
    λ b p ps n e. elim b as (λ v. length (if v then p ∷ ps else ps) ≡ (if v then 1 else 0) + n) [ true ↦ omega (arith, e) | false ↦ omega (arith, e) ] in
    cases ((node_at bytes x).kind == kind) (piece rank (node_at bytes x)) (pieces_of rank bytes kind xs) (count_of (node_at bytes) kind xs) rest

pub pieces_blocks : (rank : ℕ) (bytes xs : List ℕ) → pieces_of rank bytes 2 xs ≡ blocks_of rank (node_at bytes) xs
pieces_blocks rank bytes [] = refl
pieces_blocks rank bytes (x ∷ xs) = let rest = pieces_blocks rank bytes xs in rw rest refl

-- The chains of nodes, the header that tells of them, and that no two holes are neighbours.
pub record Linked (nodes : ℕ → Node) (header : Header) (used unused : List ℕ) : Type 0 where
  pub heap : IsHeapOf nodes used unused
  pub first : header.first ≡ first_or no_node used
  pub spare : header.unused ≡ first_or no_node unused
  pub blocks : header.blocks ≡ count_of nodes 2 used
  pub holes : header.holes ≡ count_of nodes 1 used
  pub few : header.blocks ≤ most_blocks

abbrev pub IsRestZero : List ℕ → Type 0
IsRestZero bytes = (at : ℕ) → 16 ≤ at → at < 4096 → slice_index bytes at ≡ 0

pub to_linked : (bytes used unused : List ℕ) → IsSoundHeap bytes used unused → Linked (node_at bytes) (header_of bytes) used unused
to_linked bytes used unused s = record {
  heap = record {
    chain = to_segment bytes no_node 0 used s.used_below s.used_kind s.linked s.linked_back s.cover;
    spare = to_spare bytes unused s.unused_below s.unused_kind s.unused_linked;
    once = s.each_once;
    rest = s.node_rest;
  };
  first = s.first ∙ first_of-is used;
  spare = s.unused_first ∙ first_of-is unused;
  blocks = s.blocks ∙ pieces_count 0 bytes 2 used;
  holes = s.holes ∙ pieces_count 0 bytes 1 used;
  few = s.few;
}

pub sound_no_two : (bytes used unused : List ℕ) → IsSoundHeap bytes used unused → NoTwo (node_at bytes) 2 used
sound_no_two bytes used unused s = to_no_two bytes 2 used (λ k within two. absurd (omega (arith, two))) s.joined

pub from_linked : (bytes used unused : List ℕ) → Linked (node_at bytes) (header_of bytes) used unused → NoTwo (node_at bytes) 2 used
    → IsRestZero bytes → IsSoundHeap bytes used unused
from_linked bytes used unused l none zeros = record {
  used_below = from_segment_below bytes no_node 0 used l.heap.chain;
  unused_below = from_spare_below bytes unused l.heap.spare;
  each_once = l.heap.once;
  first = l.first ∙ sym (first_of-is used);
  unused_first = l.spare ∙ sym (first_of-is unused);
  blocks = l.blocks ∙ sym (pieces_count 0 bytes 2 used);
  holes = l.holes ∙ sym (pieces_count 0 bytes 1 used);
  few = l.few;
  header_rest = zeros;
  node_rest = l.heap.rest;
  used_kind = from_segment_kind bytes no_node 0 used l.heap.chain;
  unused_kind = from_spare_kind bytes unused l.heap.spare;
  linked = from_segment_linked bytes no_node 0 used l.heap.chain;
  linked_back = from_segment_back bytes no_node 0 used l.heap.chain;
  unused_linked = from_spare_linked bytes unused l.heap.spare;
  cover = from_segment_cover bytes no_node 0 used l.heap.chain;
  joined = from_no_two bytes 2 used none;
}

pub rest_zero : (old new : List ℕ) → BytesStay old new 0 0 → IsRestZero old → IsRestZero new
rest_zero old new stay zeros at low high = stay at low (inl (omega (arith, high))) (inr (omega arith)) ∙ zeros at low high

-- the same numbers in the same order, since each names the next
pub same_used : (bytes used unused used' unused' : List ℕ) → IsSoundHeap bytes used unused → IsSoundHeap bytes used' unused' → used ≡ used'
same_used bytes used unused used' unused' s t =
    one_chain bytes used used' (sym s.first ∙ t.first) s.linked t.linked s.used_below t.used_below

pub spelled_is : (rank : ℕ) (bytes : List ℕ) (blocks : List Block) (used unused : List ℕ) → SpellsBlocks rank bytes blocks
    → IsSoundHeap bytes used unused → blocks ≡ blocks_of rank (node_at bytes) used
spelled_is rank bytes blocks used unused s sound =
    s.are ∙ ap (pieces_of rank bytes 2) (same_used bytes s.used s.unused used unused s.sound sound) ∙ pieces_blocks rank bytes used

pub spells : (rank : ℕ) (bytes : List ℕ) (blocks : List Block) (used unused : List ℕ) → IsSoundHeap bytes used unused
    → blocks ≡ blocks_of rank (node_at bytes) used → SpellsBlocks rank bytes blocks
spells rank bytes blocks used unused sound are =
    record { used = used; unused = unused; sound = sound; are = are ∙ sym (pieces_blocks rank bytes used) }

-- The bytes spell the nodes of the numbers.
are_same : (bytes : List ℕ) (nodes : ℕ → Node) (xs : List ℕ) → NodesAre bytes nodes → SameIn nodes (node_at bytes) xs
are_same bytes nodes xs are k below some = are.at k below

pub are_alike : (bytes : List ℕ) (nodes : ℕ → Node) (b f a t : ℕ) (xs : List ℕ) → NodesAre bytes nodes → Segment nodes b f a t xs
    → AlikeIn nodes (node_at bytes) xs
are_alike bytes nodes b f a t xs are chain k some =
    alike_same (node_at bytes k) (nodes k) (are.at k (segment_below nodes b f a t xs k chain some))

pub linked_are : (bytes : List ℕ) (nodes : ℕ → Node) (header : Header) (used unused : List ℕ) → NodesAre bytes nodes → header_of bytes ≡ header
    → Linked nodes header used unused → Linked (node_at bytes) (header_of bytes) used unused
linked_are bytes nodes header used unused are is l =
    let alike = are_alike bytes nodes no_node 0 no_node heap_units used are l.heap.chain in
    let P : Header → Type 0 = λ h. Linked (node_at bytes) h used unused in
    subst P (sym is) (record {
      heap = record {
        chain = segment_same nodes (node_at bytes) no_node 0 no_node heap_units used (are_same bytes nodes used are) l.heap.chain;
        spare = spare_same nodes (node_at bytes) unused (are_same bytes nodes unused are) l.heap.spare;
        once = l.heap.once;
        rest = λ k below. ap (λ (n : Node). n.rest) (are.at k below) ∙ l.heap.rest k below;
      };
      first = l.first;
      spare = l.spare;
      blocks = l.blocks ∙ sym (count_alike nodes (node_at bytes) 2 used alike);
      holes = l.holes ∙ sym (count_alike nodes (node_at bytes) 1 used alike);
      few = l.few;
    })
