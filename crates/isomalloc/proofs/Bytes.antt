-- What is left and what is read after numbers were put into a list of bytes.
use Rattle.std.proofs.Common.{◌≡◌, ℕ, ◌+◌, ◌^◌, ◌<◌, ◌≤◌, ◌⊎◌, inl, inr, List, ◌∙◌, length, refl, sym, ap, arith}
use Rattle.std.proofs.lemmas.Bool.{cases_lt, cases_eq, eq-eqb, ne_eqb}
use Rattle.rank_range.specs.Numbers.{number_at, with_number}
use Rattle.rank_range.specs.Nodes.{Node, node_at, node_place, no_node}
use Rattle.rank_range.proofs.NumberLemmas.{loaded_back, others_stay, length_stays}
use Rattle.rank_range.proofs.ChangeLemmas.{beside_one, beside_both, number_stays, same_node, node_stays}
use Rattle.isomalloc.specs.declared.nodes.Entry.{Entry}
use Rattle.isomalloc.specs.declared.nodes.Header.{Header}
use Rattle.rank_range.specs.Parts.{StayBeside}
use Rattle.isomalloc.specs.Entries.{header_of, node_of, with_node, repointed, NodesAre}

-- A number was put there.
pub record IsPut (old new : List ℕ) (at n v : ℕ) : Type 0 where
  pub is : new ≡ with_number old at n v
  pub room : at + n ≤ length old
  pub fits : v < 256 ^ n

put_is : (old new : List ℕ) (at n v : ℕ) → IsPut old new at n v → number_at new at n ≡ v
put_is old new at n v put =
    ap (λ (bytes : List ℕ). number_at bytes at n) put.is ∙ loaded_back old at n v put.room put.fits

put_other : (old new : List ℕ) (at n v other m : ℕ) → IsPut old new at n v → (other + m ≤ at) ⊎ (at + n ≤ other)
    → number_at new other m ≡ number_at old other m
put_other old new at n v other m put apart =
    ap (λ (bytes : List ℕ). number_at bytes other m) put.is ∙ others_stay old at n v other m put.room apart

pub put_length : (old new : List ℕ) (at n v : ℕ) → IsPut old new at n v → length new ≡ length old
put_length old new at n v put = ap length put.is ∙ length_stays old at n v put.room

put_beside : (old new : List ℕ) (at n v start end : ℕ) → IsPut old new at n v → start ≤ at → at + n ≤ end
    → StayBeside old new start end
put_beside old new at n v start end put low high = beside_one old new at n v start end put.is put.room low high

abbrev of_numbers : ℕ → ℕ → ℕ → ℕ → Header
of_numbers first unused blocks holes = record { first = first; unused = unused; blocks = blocks; holes = holes }

pub same_header : (a b : Header) → a.first ≡ b.first → a.unused ≡ b.unused → a.blocks ≡ b.blocks → a.holes ≡ b.holes → a ≡ b
same_header a b first unused blocks holes =
    ap (λ (x : ℕ). of_numbers x a.unused a.blocks a.holes) first
    ∙ ap (λ (x : ℕ). of_numbers b.first x a.blocks a.holes) unused
    ∙ ap (λ (x : ℕ). of_numbers b.first b.unused x a.holes) blocks
    ∙ ap (λ (x : ℕ). of_numbers b.first b.unused b.blocks x) holes

pub header_is : (b0 b1 b2 b3 b4 : List ℕ) (header : Header) → IsPut b0 b1 0 4 header.first → IsPut b1 b2 4 4 header.unused
    → IsPut b2 b3 8 4 header.blocks → IsPut b3 b4 12 4 header.holes → header_of b4 ≡ header
header_is b0 b1 b2 b3 b4 header p1 p2 p3 p4 =
    same_header (header_of b4) header
    (put_other b3 b4 12 4 header.holes 0 4 p4 (inl (omega arith)) ∙ put_other b2 b3 8 4 header.blocks 0 4 p3 (inl (omega arith))
    ∙ put_other b1 b2 4 4 header.unused 0 4 p2 (inl (omega arith)) ∙ put_is b0 b1 0 4 header.first p1)
    (put_other b3 b4 12 4 header.holes 4 4 p4 (inl (omega arith)) ∙ put_other b2 b3 8 4 header.blocks 4 4 p3 (inl (omega arith))
    ∙ put_is b1 b2 4 4 header.unused p2)
    (put_other b3 b4 12 4 header.holes 8 4 p4 (inl (omega arith)) ∙ put_is b2 b3 8 4 header.blocks p3)
    (put_is b3 b4 12 4 header.holes p4)

pub header_beside : (b0 b1 b2 b3 b4 : List ℕ) (header : Header) → IsPut b0 b1 0 4 header.first → IsPut b1 b2 4 4 header.unused
    → IsPut b2 b3 8 4 header.blocks → IsPut b3 b4 12 4 header.holes → StayBeside b0 b4 0 16
header_beside b0 b1 b2 b3 b4 header p1 p2 p3 p4 =
    beside_both b0 b3 b4 0 16
    (beside_both b0 b2 b3 0 16
    (beside_both b0 b1 b2 0 16 (put_beside b0 b1 0 4 header.first 0 16 p1 (omega arith) (omega arith))
    (put_beside b1 b2 4 4 header.unused 0 16 p2 (omega arith) (omega arith)))
    (put_beside b2 b3 8 4 header.blocks 0 16 p3 (omega arith) (omega arith)))
    (put_beside b3 b4 12 4 header.holes 0 16 p4 (omega arith) (omega arith))

-- The five numbers of a node were put from `at` on.
pub record FivePut (b0 b1 b2 b3 b4 b5 : List ℕ) (at : ℕ) (entry : Entry) : Type 0 where
  pub start : IsPut b0 b1 at 4 entry.start
  pub units : IsPut b1 b2 (at + 4) 4 entry.units
  pub previous : IsPut b2 b3 (at + 8) 2 entry.previous
  pub next : IsPut b3 b4 (at + 10) 2 entry.next
  pub kind : IsPut b4 b5 (at + 12) 1 entry.kind

pub five_beside : (b0 b1 b2 b3 b4 b5 : List ℕ) (at : ℕ) (entry : Entry) → FivePut b0 b1 b2 b3 b4 b5 at entry
    → StayBeside b0 b5 at (at + 13)
five_beside b0 b1 b2 b3 b4 b5 at entry put =
    beside_both b0 b4 b5 at (at + 13)
    (beside_both b0 b3 b4 at (at + 13)
    (beside_both b0 b2 b3 at (at + 13)
    (beside_both b0 b1 b2 at (at + 13) (put_beside b0 b1 at 4 entry.start at (at + 13) put.start (omega arith) (omega arith))
    (put_beside b1 b2 (at + 4) 4 entry.units at (at + 13) put.units (omega arith) (omega arith)))
    (put_beside b2 b3 (at + 8) 2 entry.previous at (at + 13) put.previous (omega arith) (omega arith)))
    (put_beside b3 b4 (at + 10) 2 entry.next at (at + 13) put.next (omega arith) (omega arith)))
    (put_beside b4 b5 (at + 12) 1 entry.kind at (at + 13) put.kind (omega arith) (omega arith))

five_here : (b0 b1 b2 b3 b4 b5 : List ℕ) (number : ℕ) (entry : Entry) → FivePut b0 b1 b2 b3 b4 b5 (node_place number) entry
    → node_at b5 number ≡ node_of entry (node_at b0 number).rest
five_here b0 b1 b2 b3 b4 b5 number entry put =
    let at = node_place number in
    let s = entry.start in
    let u = entry.units in
    let p = entry.previous in
    let n = entry.next in
    let k = entry.kind in
    same_node (node_at b5 number) (node_of entry (node_at b0 number).rest)
    (put_other b4 b5 (at + 12) 1 k at 4 put.kind (inl (omega arith)) ∙ put_other b3 b4 (at + 10) 2 n at 4 put.next (inl (omega arith))
    ∙ put_other b2 b3 (at + 8) 2 p at 4 put.previous (inl (omega arith)) ∙ put_other b1 b2 (at + 4) 4 u at 4 put.units (inl (omega arith))
    ∙ put_is b0 b1 at 4 s put.start)
    (put_other b4 b5 (at + 12) 1 k (at + 4) 4 put.kind (inl (omega arith)) ∙ put_other b3 b4 (at + 10) 2 n (at + 4) 4 put.next (inl (omega arith))
    ∙ put_other b2 b3 (at + 8) 2 p (at + 4) 4 put.previous (inl (omega arith)) ∙ put_is b1 b2 (at + 4) 4 u put.units)
    (put_other b4 b5 (at + 12) 1 k (at + 8) 2 put.kind (inl (omega arith)) ∙ put_other b3 b4 (at + 10) 2 n (at + 8) 2 put.next (inl (omega arith))
    ∙ put_is b2 b3 (at + 8) 2 p put.previous)
    (put_other b4 b5 (at + 12) 1 k (at + 10) 2 put.kind (inl (omega arith)) ∙ put_is b3 b4 (at + 10) 2 n put.next)
    (put_is b4 b5 (at + 12) 1 k put.kind)
    (number_stays b0 b5 at (at + 13) (at + 13) 3 (five_beside b0 b1 b2 b3 b4 b5 at entry put) (inr (omega arith)))

pub with_node-here : (number : ℕ) (node : Node) (nodes : ℕ → Node) (k : ℕ) → k ≡ number → with_node number node nodes k ≡ node
unfolding with_node
with_node-here number node nodes k same = rw (eq-eqb k number same) refl

pub with_node-other : (number : ℕ) (node : Node) (nodes : ℕ → Node) (k : ℕ) → (k ≡ number → ⊥) → with_node number node nodes k ≡ nodes k
unfolding with_node
with_node-other number node nodes k other = rw (ne_eqb k number other) refl

pub five_nodes : (b0 b1 b2 b3 b4 b5 : List ℕ) (number : ℕ) (entry : Entry) → FivePut b0 b1 b2 b3 b4 b5 (node_place number) entry
    → NodesAre b5 (with_node number (node_of entry (node_at b0 number).rest) (node_at b0))
five_nodes b0 b1 b2 b3 b4 b5 number entry put = record {
  at = λ k below.
      let node = node_of entry (node_at b0 number).rest in
      let stay = five_beside b0 b1 b2 b3 b4 b5 (node_place number) entry put in
      let apart : (k ≡ number → ⊥) → node_at b5 k ≡ with_node number node (node_at b0) k =
      λ other.
      node_stays b0 b5 (node_place number) (node_place number + 13) k stay
      (elim (cases_lt k number) [ inl before ↦ inl (omega arith) | inr behind ↦ inr (omega (arith, behind, other)) ])
      ∙ sym (with_node-other number node (node_at b0) k other) in
      elim (cases_eq k number) [
        | inl same ↦ ap (node_at b5) same ∙ five_here b0 b1 b2 b3 b4 b5 number entry put
            ∙ sym (with_node-here number node (node_at b0) k same)
        | inr other ↦ apart other
      ];
}

-- where there is no node, none is changed
pub none_repointed : (bytes : List ℕ) (number previous : ℕ) → number ≡ no_node → NodesAre bytes (repointed number previous (node_at bytes))
unfolding repointed
none_repointed bytes number previous none = record {
  at = λ k below. sym (with_node-other number _ (node_at bytes) k (λ same. omega arith));
}
