-- Used nodes as a chain with two ends, and unused nodes as a chain with one.
use Rattle.std.proofs.Common.{◌≡◌, ℕ, ◌+◌, ◌*◌, ◌<◌, ◌≤◌, ◌==◌, ◌⊎◌, Bool, true, false, if◌then◌else◌, inl, inr, List, [], ◌∷◌, ◌++◌, ◌∙◌, refl, sym, ap, subst, arith}
use Rattle.std.specs.Prelude.{⊤}
use Rattle.std.proofs.lemmas.Bool.{cases_eq, eq-eqb, ne_eqb}
use Rattle.rank_range.specs.Layout.{base_of, heap_start}
use Rattle.rank_range.specs.Nodes.{Node, node_count, no_node, heap_units, times_in}
use Rattle.rank_range.specs.declared.heap.Block.{Block}

abbrev pub first_or : ℕ → List ℕ → ℕ
first_or after [] = after
first_or after (number ∷ numbers) = number

abbrev pub last_or : ℕ → List ℕ → ℕ
last_or before [] = before
last_or before (number ∷ numbers) = last_or number numbers

pub record IsLink (node : Node) (before from after number : ℕ) : Type 0 where
  pub below : number < node_count
  pub start : node.start ≡ from
  pub some : 1 ≤ node.units
  pub previous : node.previous ≡ before
  pub next : node.next ≡ after
  pub kind : (node.kind ≡ 1) ⊎ (node.kind ≡ 2)

-- The nodes cover the heap from the unit `from` up to `to`, and are linked both ways, with `before` and `after` beside them.
abbrev pub Segment : (ℕ → Node) → ℕ → ℕ → ℕ → ℕ → List ℕ → Type 0
Segment nodes before from after to [] = from ≡ to
Segment nodes before from after to (number ∷ numbers) =
    IsLink (nodes number) before from (first_or after numbers) number
    × Segment nodes number (from + (nodes number).units) after to numbers

pub record IsSpare (node : Node) (after number : ℕ) : Type 0 where
  pub below : number < node_count
  pub kind : node.kind ≡ 0
  pub next : node.next ≡ after

abbrev pub Spare : (ℕ → Node) → List ℕ → Type 0
Spare nodes [] = ⊤
Spare nodes (number ∷ numbers) = IsSpare (nodes number) (first_or no_node numbers) number × Spare nodes numbers

pub record IsHeapOf (nodes : ℕ → Node) (used unused : List ℕ) : Type 0 where
  pub chain : Segment nodes no_node 0 no_node heap_units used
  pub spare : Spare nodes unused
  pub once : (k : ℕ) → k < node_count → times_in k (used ++ unused) ≡ 1
  pub rest : (k : ℕ) → k < node_count → (nodes k).rest ≡ 0

-- No two holes are neighbours, and none follows on a node of the kind `before` if that is a hole.
abbrev pub NoTwo : (ℕ → Node) → ℕ → List ℕ → Type 0
NoTwo nodes before [] = ⊤
NoTwo nodes before (number ∷ numbers) = (before ≡ 1 → (nodes number).kind ≡ 2) × NoTwo nodes (nodes number).kind numbers

-- how many nodes are of the kind
abbrev pub count_of : (ℕ → Node) → ℕ → List ℕ → ℕ
count_of nodes kind [] = 0
count_of nodes kind (number ∷ numbers) = (if (nodes number).kind == kind then 1 else 0) + count_of nodes kind numbers

abbrev pub piece : ℕ → Node → Block
piece rank node = record { address = base_of rank + heap_start + 16 * node.start; length = 16 * node.units }

-- the blocks of the nodes
abbrev pub blocks_of : ℕ → (ℕ → Node) → List ℕ → List Block
blocks_of rank nodes [] = []
blocks_of rank nodes (number ∷ numbers) =
    if (nodes number).kind == 2 then piece rank (nodes number) ∷ blocks_of rank nodes numbers else blocks_of rank nodes numbers

-- Nodes with the same piece of the heap.
pub record Alike (a b : Node) : Type 0 where
  pub start : a.start ≡ b.start
  pub units : a.units ≡ b.units
  pub kind : a.kind ≡ b.kind

pub alike_same : (a b : Node) → a ≡ b → Alike a b
alike_same a b e =
    record { start = ap (λ (n : Node). n.start) e; units = ap (λ (n : Node). n.units) e; kind = ap (λ (n : Node). n.kind) e }

-- how often a number is another
abbrev pub single : ℕ → ℕ → ℕ
single number other = if number == other then 1 else 0

pub single_here : (k n : ℕ) → k ≡ n → single k n ≡ 1
single_here k n same = rw (eq-eqb k n same) refl

pub single_other : (k n : ℕ) → (k ≡ n → ⊥) → single k n ≡ 0
single_other k n other = rw (ne_eqb k n other) refl

pub times-append : (k : ℕ) (xs ys : List ℕ) → times_in k (xs ++ ys) ≡ times_in k xs + times_in k ys
times-append k [] ys = omega arith
times-append k (x ∷ xs) ys =
    let rest = times-append k xs ys in
    omega (arith, rest)

-- a node's number in a list
pub times-around : (k : ℕ) (left : List ℕ) (n : ℕ) (right unused : List ℕ)
    → times_in k ((left ++ n ∷ right) ++ unused) ≡ times_in k left + (single k n + times_in k right) + times_in k unused
times-around k left n right unused =
    let whole = times-append k (left ++ n ∷ right) unused in
    let inner = times-append k left (n ∷ right) in
    omega (arith, whole, inner)

pub times_first : (k n : ℕ) (ns : List ℕ) → k ≡ n → 1 ≤ times_in k (n ∷ ns)
times_first k n ns same = let here = single_here k n same in omega (arith, here)

-- what stands first in the list stands in it
pub first_in : (k : ℕ) (numbers : List ℕ) → k < node_count → k ≡ first_or no_node numbers → 1 ≤ times_in k numbers
first_in k [] below same = absurd (omega (arith, below, same))
first_in k (n ∷ ns) below same = times_first k n ns same

pub segment_below : (nodes : ℕ → Node) (before from after to : ℕ) (xs : List ℕ) (k : ℕ) → Segment nodes before from after to xs
    → 1 ≤ times_in k xs → k < node_count
segment_below nodes before from after to [] k chain some = absurd (omega (arith, some))
segment_below nodes before from after to (n ∷ ns) k chain some =
    elim (cases_eq k n) [
      | inl same ↦ let P : ℕ → Type 0 = λ i. i < node_count in subst P (sym same) chain.0.below
      | inr other ↦ let none = single_other k n other in
          segment_below nodes n (from + (nodes n).units) after to ns k chain.1 (omega (arith, some, none))
    ]

pub spare_below : (nodes : ℕ → Node) (xs : List ℕ) (k : ℕ) → Spare nodes xs → 1 ≤ times_in k xs → k < node_count
spare_below nodes [] k chain some = absurd (omega (arith, some))
spare_below nodes (n ∷ ns) k chain some =
    elim (cases_eq k n) [
      | inl same ↦ let P : ℕ → Type 0 = λ i. i < node_count in subst P (sym same) chain.0.below
      | inr other ↦ let none = single_other k n other in spare_below nodes ns k chain.1 (omega (arith, some, none))
    ]

-- The nodes of the numbers are the same.
abbrev pub SameIn : (ℕ → Node) → (ℕ → Node) → List ℕ → Type 0
SameIn old new numbers = (k : ℕ) → k < node_count → 1 ≤ times_in k numbers → new k ≡ old k

same_tail : (old new : ℕ → Node) (n : ℕ) (ns : List ℕ) → SameIn old new (n ∷ ns) → SameIn old new ns
same_tail old new n ns same k below some = same k below (omega (arith, some))

pub segment_same : (old new : ℕ → Node) (before from after to : ℕ) (xs : List ℕ) → SameIn old new xs
    → Segment old before from after to xs → Segment new before from after to xs
segment_same old new before from after to [] same chain = chain
segment_same old new before from after to (n ∷ ns) same chain =
    let e : new n ≡ old n = same n chain.0.below (times_first n n ns refl) in
    let P : Node → Type 0 = λ node. IsLink node before from (first_or after ns) n in
    let Q : Node → Type 0 = λ node. Segment new n (from + node.units) after to ns in (
      subst P (sym e) chain.0,
      subst Q (sym e) (segment_same old new n (from + (old n).units) after to ns (same_tail old new n ns same) chain.1),
    )

pub spare_same : (old new : ℕ → Node) (xs : List ℕ) → SameIn old new xs → Spare old xs → Spare new xs
spare_same old new [] same chain = tt
spare_same old new (n ∷ ns) same chain =
    let e : new n ≡ old n = same n chain.0.below (times_first n n ns refl) in
    let P : Node → Type 0 = λ node. IsSpare node (first_or no_node ns) n in
    (subst P (sym e) chain.0, spare_same old new ns (same_tail old new n ns same) chain.1)

first_or-append : (after : ℕ) (xs ys : List ℕ) → first_or after (xs ++ ys) ≡ first_or (first_or after ys) xs
first_or-append after [] ys = refl
first_or-append after (x ∷ xs) ys = refl

-- A chain in two parts.
pub record Parts (nodes : ℕ → Node) (before from after to : ℕ) (left right : List ℕ) : Type 0 where
  pub mid : ℕ
  pub front : Segment nodes before from (first_or after right) mid left
  pub back : Segment nodes (last_or before left) mid after to right

pub segment_parts : (nodes : ℕ → Node) (before from after to : ℕ) (left right : List ℕ)
    → Segment nodes before from after to (left ++ right) → Parts nodes before from after to left right
segment_parts nodes before from after to [] right chain = record { mid = from; front = refl; back = chain }
segment_parts nodes before from after to (n ∷ ns) right chain =
    let rest = segment_parts nodes n (from + (nodes n).units) after to ns right chain.1 in
    let P : ℕ → Type 0 = λ k. IsLink (nodes n) before from k n in
    record { mid = rest.mid; front = (subst P (first_or-append after ns right) chain.0, rest.front); back = rest.back }

pub segment_whole : (nodes : ℕ → Node) (before from after to : ℕ) (left right : List ℕ) (mid : ℕ)
    → Segment nodes before from (first_or after right) mid left → Segment nodes (last_or before left) mid after to right
    → Segment nodes before from after to (left ++ right)
segment_whole nodes before from after to [] right mid front back =
    let P : ℕ → Type 0 = λ k. Segment nodes before k after to right in subst P (sym front) back
segment_whole nodes before from after to (n ∷ ns) right mid front back =
    let P : ℕ → Type 0 = λ k. IsLink (nodes n) before from k n in (
      subst P (sym (first_or-append after ns right)) front.0,
      segment_whole nodes n (from + (nodes n).units) after to ns right mid front.1 back,
    )

-- The nodes of the numbers have the same pieces.
abbrev pub AlikeIn : (ℕ → Node) → (ℕ → Node) → List ℕ → Type 0
AlikeIn old new numbers = (k : ℕ) → 1 ≤ times_in k numbers → Alike (new k) (old k)

alike_tail : (old new : ℕ → Node) (n : ℕ) (ns : List ℕ) → AlikeIn old new (n ∷ ns) → AlikeIn old new ns
alike_tail old new n ns same k some = same k (omega (arith, some))

pub count_alike : (old new : ℕ → Node) (kind : ℕ) (xs : List ℕ) → AlikeIn old new xs → count_of new kind xs ≡ count_of old kind xs
count_alike old new kind [] same = refl
count_alike old new kind (n ∷ ns) same =
    let e = (same n (times_first n n ns refl)).kind in
    let rest = count_alike old new kind ns (alike_tail old new n ns same) in
    rw (e, rest) refl

pub blocks_alike : (rank : ℕ) (old new : ℕ → Node) (xs : List ℕ) → AlikeIn old new xs → blocks_of rank new xs ≡ blocks_of rank old xs
blocks_alike rank old new [] same = refl
blocks_alike rank old new (n ∷ ns) same =
    let alike = same n (times_first n n ns refl) in
    let rest = blocks_alike rank old new ns (alike_tail old new n ns same) in
    rw (alike.kind, alike.start, alike.units, rest) refl

pub no_two_alike : (old new : ℕ → Node) (before : ℕ) (xs : List ℕ) → AlikeIn old new xs → NoTwo old before xs → NoTwo new before xs
no_two_alike old new before [] same none = tt
no_two_alike old new before (n ∷ ns) same none =
    let e = (same n (times_first n n ns refl)).kind in
    let P : ℕ → Type 0 = λ kind. NoTwo new kind ns in
    (λ hole. e ∙ none.0 hole, subst P (sym e) (no_two_alike old new (old n).kind ns (alike_tail old new n ns same) none.1))

pub count-append : (nodes : ℕ → Node) (kind : ℕ) (xs ys : List ℕ) → count_of nodes kind (xs ++ ys) ≡ count_of nodes kind xs + count_of nodes kind ys
count-append nodes kind [] ys = omega arith
count-append nodes kind (x ∷ xs) ys = let rest = count-append nodes kind xs ys in omega (arith, rest)

-- blocks before other blocks
cond_append : (b : Bool) (x : Block) (xs ys : List Block) → (if b then x ∷ xs else xs) ++ ys ≡ (if b then x ∷ (xs ++ ys) else xs ++ ys)
cond_append true x xs ys = refl
cond_append false x xs ys = refl

pub blocks-append : (rank : ℕ) (nodes : ℕ → Node) (xs ys : List ℕ) → blocks_of rank nodes (xs ++ ys) ≡ blocks_of rank nodes xs ++ blocks_of rank nodes ys
blocks-append rank nodes [] ys = refl
blocks-append rank nodes (x ∷ xs) ys =
    let rest = blocks-append rank nodes xs ys in
    rw rest (sym (cond_append ((nodes x).kind == 2) (piece rank (nodes x)) (blocks_of rank nodes xs) (blocks_of rank nodes ys)))

pub no_two_parts : (nodes : ℕ → Node) (before : ℕ) (xs ys : List ℕ) → NoTwo nodes before (xs ++ ys) → NoTwo nodes before xs
no_two_parts nodes before [] ys none = tt
no_two_parts nodes before (x ∷ xs) ys none = (none.0, no_two_parts nodes (nodes x).kind xs ys none.1)

-- the kind of the last node
abbrev pub kind_or : (ℕ → Node) → ℕ → List ℕ → ℕ
kind_or nodes before [] = before
kind_or nodes before (x ∷ xs) = kind_or nodes (nodes x).kind xs

pub no_two_back : (nodes : ℕ → Node) (before : ℕ) (xs ys : List ℕ) → NoTwo nodes before (xs ++ ys) → NoTwo nodes (kind_or nodes before xs) ys
no_two_back nodes before [] ys none = none
no_two_back nodes before (x ∷ xs) ys none = no_two_back nodes (nodes x).kind xs ys none.1

pub no_two_whole : (nodes : ℕ → Node) (before : ℕ) (xs ys : List ℕ) → NoTwo nodes before xs → NoTwo nodes (kind_or nodes before xs) ys
    → NoTwo nodes before (xs ++ ys)
no_two_whole nodes before [] ys front back = back
no_two_whole nodes before (x ∷ xs) ys front back = (front.0, no_two_whole nodes (nodes x).kind xs ys front.1 back)

-- less is asked where no hole stands before
pub no_two_weaker : (nodes : ℕ → Node) (before other : ℕ) (xs : List ℕ) → (other ≡ 1 → before ≡ 1) → NoTwo nodes before xs → NoTwo nodes other xs
no_two_weaker nodes before other [] less none = tt
no_two_weaker nodes before other (x ∷ xs) less none = (λ hole. none.0 (less hole), none.1)
