-- Changes of nodes, one after the other.
use Rattle.std.proofs.Common.{◌≡◌, ℕ, ◌+◌, ◌-◌, ◌<◌, inl, inr, List, ◌∙◌, sym, ap, subst, arith}
use Rattle.std.proofs.lemmas.Bool.{cases_eq}
use Rattle.rank_range.specs.Layout.{descriptors_start, globals_start}
use Rattle.rank_range.specs.Nodes.{Node, node_at, node_count}
use Rattle.isomalloc.specs.Heap.{BytesStay}
use Rattle.isomalloc.specs.declared.nodes.Entry.{Entry}
use Rattle.rank_range.specs.Parts.{StayBeside}
use Rattle.isomalloc.specs.Entries.{with_node, with_previous, node_of, repointed, split_nodes, joined_nodes, NodesAre}
use Rattle.rank_range.proofs.ChangeLemmas.{node_stays}
use Rattle.isomalloc.proofs.Bytes.{with_node-here, with_node-other}

-- the header is no node
pub nodes_stay : (old new : List ℕ) (nodes : ℕ → Node) → StayBeside old new 0 16 → NodesAre old nodes → NodesAre new nodes
nodes_stay old new nodes stay are = record {
  at = λ k below. node_stays old new 0 16 k stay (inr (omega arith)) ∙ are.at k below;
}

pub with_then : (mid new : List ℕ) (number : ℕ) (node : Node) (nodes : ℕ → Node) → NodesAre mid nodes
    → NodesAre new (with_node number node (node_at mid)) → NodesAre new (with_node number node nodes)
with_then mid new number node nodes first second = record {
  at = λ k below.
      elim (cases_eq k number) [
        | inl same ↦ second.at k below ∙ with_node-here number node (node_at mid) k same ∙ sym (with_node-here number node nodes k same)
        | inr other ↦ second.at k below ∙ with_node-other number node (node_at mid) k other ∙ first.at k below
            ∙ sym (with_node-other number node nodes k other)
      ];
}

pub repointed_then : (mid new : List ℕ) (number previous : ℕ) (nodes : ℕ → Node) → NodesAre mid nodes
    → NodesAre new (repointed number previous (node_at mid)) → NodesAre new (repointed number previous nodes)
unfolding repointed
repointed_then mid new number previous nodes first second = record {
  at = λ k below.
      let before = with_previous previous (node_at mid number) in
      let after = with_previous previous (nodes number) in
      let here : k ≡ number → before ≡ after =
      λ same. ap (λ (i : ℕ). with_previous previous (node_at mid i)) (sym same) ∙ ap (with_previous previous) (first.at k below)
      ∙ ap (λ (i : ℕ). with_previous previous (nodes i)) same in
      elim (cases_eq k number) [
        | inl same ↦ second.at k below ∙ with_node-here number before (node_at mid) k same ∙ here same
            ∙ sym (with_node-here number after nodes k same)
        | inr other ↦ second.at k below ∙ with_node-other number before (node_at mid) k other ∙ first.at k below
            ∙ sym (with_node-other number after nodes k other)
      ];
}

pub stays_nodes : (old new : List ℕ) → StayBeside old new descriptors_start globals_start → BytesStay old new 0 0
stays_nodes old new stay i low apart none = stay.at i apart

pub stays_header : (old new : List ℕ) → StayBeside old new 0 16 → BytesStay old new 0 0
stays_header old new stay i low apart none = stay.at i (inr low)

pub stays_both : (old mid new : List ℕ) (start end : ℕ) → BytesStay old mid start end → BytesStay mid new start end
    → BytesStay old new start end
stays_both old mid new start end first second i low apart out = second i low apart out ∙ first i low apart out

-- the rest of a node is never written
rest_stays : (old new : List ℕ) (number : ℕ) (entry : Entry) (k : ℕ) → k < node_count
    → NodesAre new (with_node number (node_of entry (node_at old number).rest) (node_at old))
    → (node_at new k).rest ≡ (node_at old k).rest
rest_stays old new number entry k below are =
    let node = node_of entry (node_at old number).rest in
    elim (cases_eq k number) [
      | inl same ↦ ap (λ (n : Node). n.rest) (are.at k below ∙ with_node-here number node (node_at old) k same)
          ∙ ap (λ (i : ℕ). (node_at old i).rest) (sym same)
      | inr other ↦ ap (λ (n : Node). n.rest) (are.at k below ∙ with_node-other number node (node_at old) k other)
    ]

-- two nodes are written, a third is repointed, and then the header is written
two_then : (b0 b1 b2 b3 b4 : List ℕ) (one two third previous : ℕ) (e f : Entry) → two < node_count
    → NodesAre b1 (with_node one (node_of e (node_at b0 one).rest) (node_at b0))
    → NodesAre b2 (with_node two (node_of f (node_at b1 two).rest) (node_at b1))
    → NodesAre b3 (repointed third previous (node_at b2)) → StayBeside b3 b4 0 16
    → NodesAre b4 (repointed third previous (with_node two (node_of f (node_at b0 two).rest)
    (with_node one (node_of e (node_at b0 one).rest) (node_at b0))))
two_then b0 b1 b2 b3 b4 one two third previous e f below first second last header =
    let P : ℕ → Type 0 = λ r. NodesAre b2 (with_node two (node_of f r) (node_at b1)) in
    let second' = subst P (rest_stays b0 b1 one e two below first) second in
    let nodes = with_node one (node_of e (node_at b0 one).rest) (node_at b0) in
    let both = with_then b1 b2 two (node_of f (node_at b0 two).rest) nodes first second' in
    nodes_stay b3 b4 _ header (repointed_then b2 b3 third previous _ both last)

pub split_done : (b0 b1 b2 b3 b4 : List ℕ) (number units spare : ℕ) → number < node_count
    → NodesAre b1 (with_node spare (record {
      start = (node_at b0 number).start + units;
      units = (node_at b0 number).units - units;
      previous = number;
      next = (node_at b0 number).next;
      kind = 1;
      rest = (node_at b0 spare).rest;
    }) (node_at b0))
    → NodesAre b2 (with_node number (record {
      start = (node_at b0 number).start;
      units = units;
      previous = (node_at b0 number).previous;
      next = spare;
      kind = 2;
      rest = (node_at b1 number).rest;
    }) (node_at b1))
    → NodesAre b3 (repointed (node_at b0 number).next spare (node_at b2)) → StayBeside b3 b4 0 16
    → NodesAre b4 (split_nodes number units spare (node_at b0))
unfolding split_nodes
split_done b0 b1 b2 b3 b4 number units spare below first second last header =
    let node = node_at b0 number in
    let e : Entry = record { start = node.start + units; units = node.units - units; previous = number; next = node.next; kind = 1 } in
    let f : Entry = record { start = node.start; units = units; previous = node.previous; next = spare; kind = 2 } in
    two_then b0 b1 b2 b3 b4 spare number node.next spare e f below first second last header

pub join_done : (b0 b1 b2 b3 b4 : List ℕ) (number behind unused : ℕ) → behind < node_count
    → NodesAre b1 (with_node number (record {
      start = (node_at b0 number).start;
      units = (node_at b0 number).units + (node_at b0 behind).units;
      previous = (node_at b0 number).previous;
      next = (node_at b0 behind).next;
      kind = (node_at b0 number).kind;
      rest = (node_at b0 number).rest;
    }) (node_at b0))
    → NodesAre b2 (with_node behind (record {
      start = 0;
      units = 0;
      previous = 0;
      next = unused;
      kind = 0;
      rest = (node_at b1 behind).rest;
    }) (node_at b1))
    → NodesAre b3 (repointed (node_at b0 behind).next number (node_at b2)) → StayBeside b3 b4 0 16
    → NodesAre b4 (joined_nodes number behind unused (node_at b0))
unfolding joined_nodes
join_done b0 b1 b2 b3 b4 number behind unused below first second last header =
    let left = node_at b0 number in
    let right = node_at b0 behind in
    let e : Entry = record { start = left.start; units = left.units + right.units; previous = left.previous; next = right.next; kind = left.kind } in
    let f : Entry = record { start = 0; units = 0; previous = 0; next = unused; kind = 0 } in
    two_then b0 b1 b2 b3 b4 number behind right.next number e f below first second last header

pub stays_four : (b0 b1 b2 b3 b4 : List ℕ) → StayBeside b0 b1 descriptors_start globals_start
    → StayBeside b1 b2 descriptors_start globals_start → StayBeside b2 b3 descriptors_start globals_start
    → StayBeside b3 b4 0 16 → BytesStay b0 b4 0 0
stays_four b0 b1 b2 b3 b4 first second third last =
    stays_both b0 b3 b4 0 0
    (stays_both b0 b2 b3 0 0 (stays_both b0 b1 b2 0 0 (stays_nodes b0 b1 first) (stays_nodes b1 b2 second)) (stays_nodes b2 b3 third))
    (stays_header b3 b4 last)
