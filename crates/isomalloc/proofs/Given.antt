-- What opening a block and joining holes do to the live blocks that the bytes spell.
use Rattle.std.proofs.Common.{◌≡◌, ℕ, ◌+◌, ◌-◌, ◌<◌, ◌≤◌, ◌⊎◌, inl, inr, List, [], ◌∷◌, ◌++◌, ◌∙◌, length, refl, sym, ap, subst, arith, append_assoc}
use Rattle.std.proofs.lemmas.Bool.{cases_eq}
use Rattle.rank_range.specs.Nodes.{Node, node_at, node_count, no_node, heap_units, IsSoundHeap, SpellsBlocks, live_blocks, hole_count, first_node, first_unused}
use Rattle.rank_range.specs.declared.heap.Block.{Block}
use Rattle.isomalloc.specs.declared.nodes.Header.{Header}
use Rattle.rank_range.specs.Heap.{without, IsLive}
use Rattle.isomalloc.specs.Heap.{BytesStay}
use Rattle.isomalloc.specs.Entries.{MayBeNode, NodesAre, header_of, joined_nodes}
use Rattle.isomalloc.specs.Search.{IsUsed, IsBlockAt, Vacates}
use Rattle.isomalloc.proofs.Shape.{first_or, last_or, Segment, NoTwo, count_of, piece, blocks_of, single, single_here, single_other, AlikeIn, count_alike, blocks_alike, no_two_alike, blocks-append, no_two_parts, no_two_back, no_two_whole, no_two_weaker, kind_or, times_first}
use Rattle.isomalloc.proofs.Steps.{rekinded, beside, around_left, around_right, join_heap}
use Rattle.isomalloc.proofs.Sound.{Linked, IsRestZero, to_linked, sound_no_two, from_linked, rest_zero, spelled_is, spells, are_alike, linked_are}
use Rattle.isomalloc.proofs.Blocks.{address_of, segment_order, blocks_hole, blocks_block, without_between, live_between}
use Rattle.isomalloc.proofs.Taken.{first_may, last_may, count_around, rekind, rekind_count, first_same}

alike_both : (old mid new : ℕ → Node) (xs : List ℕ) → AlikeIn old mid xs → AlikeIn mid new xs → AlikeIn old new xs
alike_both old mid new xs first second k some =
    let a = first k some in
    let b = second k some in
    record { start = b.start ∙ a.start; units = b.units ∙ a.units; kind = b.kind ∙ a.kind }

-- A sound heap but for the hole n, which may have neighbours that are holes.
pub record Loose (bytes : List ℕ) (blocks : ℕ → List Block) (left : List ℕ) (n : ℕ) (right unused : List ℕ) : Type 0 where
  pub linked : Linked (node_at bytes) (header_of bytes) (left ++ n ∷ right) unused
  pub hole : (node_at bytes n).kind ≡ 1
  pub front : NoTwo (node_at bytes) 2 left
  pub back : NoTwo (node_at bytes) 2 right
  pub zeros : IsRestZero bytes
  pub are : (rank : ℕ) → blocks_of rank (node_at bytes) (left ++ n ∷ right) ≡ blocks rank

-- the blocks beside a node
abbrev pub others : List ℕ → List ℕ → List ℕ → ℕ → List Block
others bytes left right rank = blocks_of rank (node_at bytes) left ++ blocks_of rank (node_at bytes) right

pub used_blocks : (bytes : List ℕ) (number : ℕ) → IsUsed bytes number → (node_at bytes number).kind ≡ 2 → 1 ≤ live_blocks bytes
used_blocks bytes number u full =
    let l = to_linked bytes (u.left ++ number ∷ u.right) u.unused u.sound in
    let sum = count_around (node_at bytes) 2 u.left number u.right in
    let one : single (node_at bytes number).kind 2 ≡ 1 = ap (λ (k : ℕ). single k 2) full in
    omega (arith, l.blocks, sum, one)

pub opened : (old new : List ℕ) (number : ℕ) (u : IsUsed old number) → (node_at old number).kind ≡ 2
    → NodesAre new (rekinded 1 number (node_at old))
    → header_of new ≡ record {
      first = first_node old;
      unused = first_unused old;
      blocks = live_blocks old - 1;
      holes = hole_count old + 1;
    }
    → BytesStay old new 0 0 → Loose new (others old u.left u.right) u.left number u.right u.unused
opened old new number u full are header stay =
    let left = u.left in
    let right = u.right in
    let used = left ++ number ∷ right in
    let nodes = node_at old in
    let now = rekinded 1 number nodes in
    let l = to_linked old used u.unused u.sound in
    let none = sound_no_two old used u.unused u.sound in
    let r = rekind nodes 1 left number right u.unused (inl refl) l.heap in
    let was : single (nodes number).kind 2 ≡ 1 = ap (λ (k : ℕ). single k 2) full in
    let was_hole : single (nodes number).kind 1 ≡ 0 = ap (λ (k : ℕ). single k 1) full in
    let old_blocks = count_around nodes 2 left number right in
    let old_holes = count_around nodes 1 left number right in
    let new_blocks = rekind_count nodes 1 left number right u.unused 2 r in
    let new_holes = rekind_count nodes 1 left number right u.unused 1 r in
    let next : Header = record {
      first = first_node old;
      unused = first_unused old;
      blocks = live_blocks old - 1;
      holes = hole_count old + 1;
    } in
    let linked : Linked now next used u.unused = record {
      heap = r.heap;
      first = l.first;
      spare = l.spare;
      blocks = omega (arith, l.blocks, old_blocks, new_blocks, was);
      holes = omega (arith, l.holes, old_holes, new_holes, was_hole);
      few = omega (arith, l.few);
    } in
    let alike = are_alike new now no_node 0 no_node heap_units used are linked.heap.chain in
    let b = beside now left number right linked.heap.chain in
    let left_alike = alike_both nodes now (node_at new) left r.in_left (are_alike new now no_node 0 number b.mid left are b.front) in
    let right_alike =
    alike_both nodes now (node_at new) right r.in_right (are_alike new now number (b.mid + (now number).units) no_node heap_units right are b.back) in
    let back = no_two_back nodes 2 left (number ∷ right) none in
    let hole : (now number).kind ≡ 1 = ap (λ (x : Node). x.kind) r.here in
    let hole_now : (node_at new number).kind ≡ 1 = ap (λ (x : Node). x.kind) (are.at number b.link.below) ∙ hole in
    record {
      linked = linked_are new now next used u.unused are header linked;
      hole = hole_now;
      front = no_two_alike nodes (node_at new) 2 left left_alike (no_two_parts nodes 2 left (number ∷ right) none);
      back = no_two_alike nodes (node_at new) 2 right right_alike
          (no_two_weaker nodes (nodes number).kind 2 right (λ e. absurd (omega (arith, e))) back.1);
      zeros = rest_zero old new stay u.sound.header_rest;
      are = λ rank.
          blocks-append rank (node_at new) left (number ∷ right)
          ∙ ap (λ (bs : List Block). bs ++ blocks_of rank (node_at new) (number ∷ right)) (blocks_alike rank nodes (node_at new) left left_alike)
          ∙ ap (λ (bs : List Block). blocks_of rank nodes left ++ bs)
          (blocks_hole rank (node_at new) number right hole_now ∙ blocks_alike rank nodes (node_at new) right right_alike);
    }

-- What a call that joins two holes asks.
pub record CanJoin (bytes : List ℕ) (n m : ℕ) : Type 0 where
  pub below : n < node_count
  pub behind_below : m < node_count
  pub known : MayBeNode (node_at bytes m).next
  pub inside : (node_at bytes n).units + (node_at bytes m).units ≤ heap_units
  pub unused : MayBeNode (first_unused bytes)
  pub some : 1 ≤ hole_count bytes

spare_may : (nodes : ℕ → Node) (header : Header) (used unused : List ℕ) → Linked nodes header used unused → MayBeNode header.unused
spare_may nodes header used [] l = inr l.spare
spare_may nodes header used (x ∷ xs) l = let P : ℕ → Type 0 = MayBeNode in subst P (sym l.spare) (inl l.heap.spare.0.below)

pub can_join : (bytes : List ℕ) (left : List ℕ) (n m : ℕ) (right unused : List ℕ) → Linked (node_at bytes) (header_of bytes) (left ++ n ∷ m ∷ right) unused
    → (node_at bytes n).kind ≡ 1 → CanJoin bytes n m
can_join bytes left n m right unused l hole =
    let nodes = node_at bytes in
    let b = beside nodes left n (m ∷ right) l.heap.chain in
    let order = segment_order nodes m (b.mid + (nodes n).units + (nodes m).units) no_node heap_units right b.back.1 in
    let sum = count_around nodes 1 left n (m ∷ right) in
    let one : single (nodes n).kind 1 ≡ 1 = ap (λ (k : ℕ). single k 1) hole in
    record {
      below = b.link.below;
      behind_below = b.back.0.below;
      known = subst MayBeNode (sym b.back.0.next) (first_may nodes m (b.mid + (nodes n).units + (nodes m).units) heap_units right b.back.1);
      inside = omega (arith, order);
      unused = spare_may nodes (header_of bytes) (left ++ n ∷ m ∷ right) unused l;
      some = omega (arith, l.holes, sum, one);
    }

-- What joining two holes leaves.
pub record Joins (old new : List ℕ) (left : List ℕ) (n m : ℕ) (right unused : List ℕ) : Type 0 where
  pub linked : Linked (node_at new) (header_of new) (left ++ n ∷ right) (m ∷ unused)
  pub in_left : AlikeIn (node_at old) (node_at new) left
  pub in_right : AlikeIn (node_at old) (node_at new) right
  pub kind : (node_at new n).kind ≡ 1
  pub are : (rank : ℕ) → blocks_of rank (node_at new) (left ++ n ∷ right) ≡ blocks_of rank (node_at old) (left ++ n ∷ m ∷ right)

pub joins : (old new : List ℕ) (left : List ℕ) (n m : ℕ) (right unused : List ℕ) → Linked (node_at old) (header_of old) (left ++ n ∷ m ∷ right) unused
    → (node_at old n).kind ≡ 1 → (node_at old m).kind ≡ 1
    → NodesAre new (joined_nodes n m (first_unused old) (node_at old))
    → header_of new ≡ record {
      first = first_node old;
      unused = m;
      blocks = live_blocks old;
      holes = hole_count old - 1;
    }
    → Joins old new left n m right unused
joins old new left n m right unused l hole behind are header =
    let nodes = node_at old in
    let used = left ++ n ∷ m ∷ right in
    let after = left ++ n ∷ right in
    let F : ℕ → Type 0 = λ u. NodesAre new (joined_nodes n m u nodes) in
    let are' = subst F l.spare are in
    let now = joined_nodes n m (first_or no_node unused) nodes in
    let b = beside nodes left n (m ∷ right) l.heap.chain in
    let j = join_heap nodes n m left right unused l.heap in
    let in_left = around_left nodes now left n right no_node 0 n b.mid j.around b.front in
    let in_right = around_right nodes now left n right m (b.mid + (nodes n).units + (nodes m).units) no_node heap_units j.around b.back.1 in
    let still : (now n).kind ≡ 1 = ap (λ (x : Node). x.kind) j.whole ∙ hole in
    let counted : (kind : ℕ) → count_of now kind after ≡ count_of nodes kind left + (single 1 kind + count_of nodes kind right) =
    λ kind.
    let sum = count_around now kind left n right in
    let at_left = count_alike nodes now kind left in_left in
    let at_right = count_alike nodes now kind right in_right in
    let one : single (now n).kind kind ≡ single 1 kind = ap (λ (k : ℕ). single k kind) still in
    omega (arith, sum, at_left, at_right, one) in
    let before : (kind : ℕ) → count_of nodes kind used ≡ count_of nodes kind left + (single 1 kind + (single 1 kind + count_of nodes kind right)) =
    λ kind.
    let sum = count_around nodes kind left n (m ∷ right) in
    let one : single (nodes n).kind kind ≡ single 1 kind = ap (λ (k : ℕ). single k kind) hole in
    let two : single (nodes m).kind kind ≡ single 1 kind = ap (λ (k : ℕ). single k kind) behind in
    omega (arith, sum, one, two) in
    let old_blocks : count_of nodes 2 used ≡ count_of nodes 2 left + (0 + (0 + count_of nodes 2 right)) = before 2 in
    let old_holes : count_of nodes 1 used ≡ count_of nodes 1 left + (1 + (1 + count_of nodes 1 right)) = before 1 in
    let new_blocks : count_of now 2 after ≡ count_of nodes 2 left + (0 + count_of nodes 2 right) = counted 2 in
    let new_holes : count_of now 1 after ≡ count_of nodes 1 left + (1 + count_of nodes 1 right) = counted 1 in
    let next : Header = record {
      first = first_node old;
      unused = m;
      blocks = live_blocks old;
      holes = hole_count old - 1;
    } in
    let linked : Linked now next after (m ∷ unused) = record {
      heap = j.heap;
      first = l.first ∙ first_same left n (m ∷ right) right;
      spare = refl;
      blocks = omega (arith, l.blocks, old_blocks, new_blocks);
      holes = omega (arith, l.holes, old_holes, new_holes);
      few = l.few;
    } in
    let a = beside now left n right linked.heap.chain in
    let left_alike = alike_both nodes now (node_at new) left in_left (are_alike new now no_node 0 n a.mid left are' a.front) in
    let right_alike =
    alike_both nodes now (node_at new) right in_right (are_alike new now n (a.mid + (now n).units) no_node heap_units right are' a.back) in
    let hole_now : (node_at new n).kind ≡ 1 = ap (λ (x : Node). x.kind) (are'.at n b.link.below) ∙ still in
    record {
      linked = linked_are new now next after (m ∷ unused) are' header linked;
      in_left = left_alike;
      in_right = right_alike;
      kind = hole_now;
      are = λ rank.
          blocks-append rank (node_at new) left (n ∷ right)
          ∙ ap (λ (bs : List Block). bs ++ blocks_of rank (node_at new) (n ∷ right)) (blocks_alike rank nodes (node_at new) left left_alike)
          ∙ ap (λ (bs : List Block). blocks_of rank nodes left ++ bs)
          (blocks_hole rank (node_at new) n right hole_now ∙ blocks_alike rank nodes (node_at new) right right_alike
          ∙ sym (blocks_hole rank nodes n (m ∷ right) hole ∙ blocks_hole rank nodes m right behind))
          ∙ sym (blocks-append rank nodes left (n ∷ m ∷ right));
    }

-- The hole n has no hole behind it.
pub record Half (bytes : List ℕ) (blocks : ℕ → List Block) (left : List ℕ) (n : ℕ) : Type 0 where
  pub right : List ℕ
  pub unused : List ℕ
  pub loose : Loose bytes blocks left n right unused
  pub done : NoTwo (node_at bytes) 1 right

-- the node that the hole n names behind it is the first on its right
pub loose_next : (bytes : List ℕ) (blocks : ℕ → List Block) (left : List ℕ) (n : ℕ) (right unused : List ℕ) → Loose bytes blocks left n right unused
    → (node_at bytes n).next ≡ first_or no_node right
loose_next bytes blocks left n right unused l = (beside (node_at bytes) left n right l.linked.heap.chain).link.next

pub loose_previous : (bytes : List ℕ) (blocks : ℕ → List Block) (left : List ℕ) (n : ℕ) (right unused : List ℕ) → Loose bytes blocks left n right unused
    → (node_at bytes n).previous ≡ last_or no_node left
loose_previous bytes blocks left n right unused l = (beside (node_at bytes) left n right l.linked.heap.chain).link.previous

pub loose_below : (bytes : List ℕ) (blocks : ℕ → List Block) (left : List ℕ) (n : ℕ) (right unused : List ℕ) → Loose bytes blocks left n right unused
    → n < node_count
loose_below bytes blocks left n right unused l = (beside (node_at bytes) left n right l.linked.heap.chain).link.below

pub next_may : (bytes : List ℕ) (blocks : ℕ → List Block) (left : List ℕ) (n : ℕ) (right unused : List ℕ) → Loose bytes blocks left n right unused
    → MayBeNode (node_at bytes n).next
next_may bytes blocks left n right unused l =
    let nodes = node_at bytes in
    let b = beside nodes left n right l.linked.heap.chain in
    subst MayBeNode (sym b.link.next) (first_may nodes n (b.mid + (nodes n).units) heap_units right b.back)

pub previous_may : (bytes : List ℕ) (blocks : ℕ → List Block) (left : List ℕ) (n : ℕ) (right unused : List ℕ) → Loose bytes blocks left n right unused
    → MayBeNode (node_at bytes n).previous
previous_may bytes blocks left n right unused l =
    let nodes = node_at bytes in
    let b = beside nodes left n right l.linked.heap.chain in
    subst MayBeNode (sym b.link.previous) (last_may nodes no_node 0 n b.mid left (inr refl) b.front)

-- a hole that follows on n is the first of the nodes on its right
pub record Behind (right : List ℕ) (m : ℕ) : Type 0 where
  pub rest : List ℕ
  pub is : right ≡ m ∷ rest

pub behind_is : (right : List ℕ) (m : ℕ) → m ≡ first_or no_node right → m < node_count → Behind right m
behind_is [] m e below = absurd (omega (arith, e, below))
behind_is (x ∷ xs) m e below = record { rest = xs; is = ap (λ (k : ℕ). k ∷ xs) (sym e) }

-- there is no hole behind n
pub half_without : (bytes : List ℕ) (blocks : ℕ → List Block) (left : List ℕ) (n : ℕ) (right unused : List ℕ) → Loose bytes blocks left n right unused
    → ((node_at bytes n).next < node_count → (node_at bytes (node_at bytes n).next).kind ≡ 1 → ⊥) → Half bytes blocks left n
half_without bytes blocks left n [] unused l no_hole = record { right = []; unused = unused; loose = l; done = tt }
half_without bytes blocks left n (x ∷ xs) unused l no_hole =
    let nodes = node_at bytes in
    let b = beside nodes left n (x ∷ xs) l.linked.heap.chain in
    let next = b.link.next in
    let P : ℕ → Type 0 = λ k. k < node_count → (nodes k).kind ≡ 1 → ⊥ in
    let not_hole = subst P next no_hole in
    let full : (nodes x).kind ≡ 2 = elim b.back.0.kind [ inl hole ↦ absurd (not_hole b.back.0.below hole) | inr full ↦ full ] in
    record { right = x ∷ xs; unused = unused; loose = l; done = (λ e. full, l.back.1) }

half_from : (old new : List ℕ) (blocks : ℕ → List Block) (left : List ℕ) (n m : ℕ) (right unused : List ℕ) → Loose old blocks left n (m ∷ right) unused
    → (node_at old m).kind ≡ 1 → NodesAre new (joined_nodes n m (first_unused old) (node_at old))
    → header_of new ≡ record {
      first = first_node old;
      unused = m;
      blocks = live_blocks old;
      holes = hole_count old - 1;
    }
    → BytesStay old new 0 0 → Half new blocks left n
half_from old new blocks left n m right unused l behind are header stay =
    let nodes = node_at old in
    let j = joins old new left n m right unused l.linked l.hole behind are header in
    let P : ℕ → Type 0 = λ k. NoTwo nodes k right in
    let back = no_two_alike nodes (node_at new) 1 right j.in_right (subst P behind l.back.1) in
    record {
      right = right;
      unused = m ∷ unused;
      loose = record {
        linked = j.linked;
        hole = j.kind;
        front = no_two_alike nodes (node_at new) 2 left j.in_left l.front;
        back = no_two_weaker (node_at new) 1 2 right (λ e. refl) back;
        zeros = rest_zero old new stay l.zeros;
        are = λ rank. j.are rank ∙ l.are rank;
      };
      done = back;
    }

-- a hole behind n was joined to it
pub half_joined : (old new : List ℕ) (blocks : ℕ → List Block) (left : List ℕ) (n m : ℕ) (right unused : List ℕ) → Loose old blocks left n right unused
    → m ≡ (node_at old n).next → m < node_count → (node_at old m).kind ≡ 1 → NodesAre new (joined_nodes n m (first_unused old) (node_at old))
    → header_of new ≡ record {
      first = first_node old;
      unused = m;
      blocks = live_blocks old;
      holes = hole_count old - 1;
    }
    → BytesStay old new 0 0 → Half new blocks left n
half_joined old new blocks left n m right unused l next below behind are header stay =
    let b = behind_is right m (next ∙ loose_next old blocks left n right unused l) below in
    let P : List ℕ → Type 0 = λ xs. Loose old blocks left n xs unused in
    half_from old new blocks left n m b.rest unused (subst P b.is l) behind are header stay

-- what joining with the hole behind asks
pub can_join_behind : (bytes : List ℕ) (blocks : ℕ → List Block) (left : List ℕ) (n m : ℕ) (right unused : List ℕ) → Loose bytes blocks left n right unused
    → m ≡ (node_at bytes n).next → m < node_count → CanJoin bytes n m
can_join_behind bytes blocks left n m right unused l next below =
    let b = behind_is right m (next ∙ loose_next bytes blocks left n right unused l) below in
    let P : List ℕ → Type 0 = λ xs. Linked (node_at bytes) (header_of bytes) (left ++ n ∷ xs) unused in
    can_join bytes left n m b.rest unused (subst P b.is l.linked) l.hole

-- A list is empty or has a last element.
pub record Before (left : List ℕ) (p : ℕ) : Type 0 where
  pub rest : List ℕ
  pub is : left ≡ rest ++ p ∷ []

pub before_is : (left : List ℕ) (p b : ℕ) → p ≡ last_or b left → (p ≡ b → ⊥) → Before left p
before_is [] p b e other = absurd (other e)
before_is (x ∷ []) p b e other = record { rest = []; is = ap (λ (k : ℕ). k ∷ []) (sym e) }
before_is (x ∷ y ∷ ys) p b e other =
    let step : last_or x (y ∷ ys) ≡ last_or b (y ∷ ys) = refl in
    let r = before_is (y ∷ ys) p b (e ∙ step) other in
    record { rest = x ∷ r.rest; is = ap (λ (zs : List ℕ). x ∷ zs) r.is }

-- The bytes spell a sound heap with these blocks.
pub record Done (bytes : List ℕ) (blocks : ℕ → List Block) : Type 0 where
  pub used : List ℕ
  pub unused : List ℕ
  pub sound : IsSoundHeap bytes used unused
  pub are : (rank : ℕ) → blocks_of rank (node_at bytes) used ≡ blocks rank

kind_or_last : (nodes : ℕ → Node) (b : ℕ) (xs : List ℕ) (c : ℕ) → xs ≡ [] ⊎ (kind_or nodes c xs ≡ (nodes (last_or b xs)).kind)
kind_or_last nodes b [] c = inl refl
kind_or_last nodes b (x ∷ []) c = inr refl
kind_or_last nodes b (x ∷ y ∷ ys) c =
    elim (kind_or_last nodes x (y ∷ ys) (nodes x).kind) [
      | inl none ↦ absurd (let e = ap (λ (zs : List ℕ). length zs) none in omega (arith, e))
      | inr same ↦ inr same
    ]

last_small : (nodes : ℕ → Node) (b f a t : ℕ) (xs : List ℕ) → b < node_count → Segment nodes b f a t xs → last_or b xs < node_count
last_small nodes b f a t [] below chain = below
last_small nodes b f a t (x ∷ xs) below chain = last_small nodes x (f + (nodes x).units) a t xs chain.0.below chain.1

-- a chain whose last node is none is empty
not_hole_there : (nodes : ℕ → Node) (left : List ℕ) (n mid : ℕ) → last_or no_node left ≡ no_node → Segment nodes no_node 0 n mid left
    → kind_or nodes 2 left ≡ 1 → ⊥
not_hole_there nodes [] n mid none chain e = omega (arith, e)
not_hole_there nodes (x ∷ xs) n mid none chain e =
    let small = last_small nodes x (0 + (nodes x).units) n mid xs chain.0.below chain.1 in
    omega (arith, none, small)

-- there is no hole before n
pub done_without : (bytes : List ℕ) (blocks : ℕ → List Block) (left : List ℕ) (n : ℕ) (h : Half bytes blocks left n)
    → ((node_at bytes n).previous < node_count → (node_at bytes (node_at bytes n).previous).kind ≡ 1 → ⊥) → Done bytes blocks
done_without bytes blocks left n h no_hole =
    let nodes = node_at bytes in
    let l = h.loose in
    let used = left ++ n ∷ h.right in
    let b = beside nodes left n h.right l.linked.heap.chain in
    let P : ℕ → Type 0 = λ k. k < node_count → (nodes k).kind ≡ 1 → ⊥ in
    let not_hole = subst P b.link.previous no_hole in
    let first : kind_or nodes 2 left ≡ 1 → (nodes n).kind ≡ 2 =
    λ e. elim (kind_or_last nodes no_node left 2) [
      | inl none ↦ absurd (let two = ap (λ (xs : List ℕ). kind_or nodes 2 xs) none in omega (arith, e, two))
      | inr same ↦ elim (last_may nodes no_node 0 n b.mid left (inr refl) b.front) [
        | inl below ↦ absurd (not_hole below (sym same ∙ e))
        | inr none ↦ absurd (not_hole_there nodes left n b.mid none b.front e)
      ]
    ] in
    let both : NoTwo nodes 2 used =
    no_two_whole nodes 2 left (n ∷ h.right) l.front (first, no_two_weaker nodes 1 (nodes n).kind h.right (λ e. refl) h.done) in
    record { used = used; unused = h.unused; sound = from_linked bytes used h.unused l.linked both l.zeros; are = l.are }

-- the last node's kind
kind_or_alike : (old new : ℕ → Node) (before : ℕ) (xs : List ℕ) → AlikeIn old new xs → kind_or new before xs ≡ kind_or old before xs
kind_or_alike old new before [] same = refl
kind_or_alike old new before (x ∷ xs) same =
    let e = (same x (times_first x x xs refl)).kind in
    kind_or_alike old new (new x).kind xs (λ k some. same k (omega (arith, some))) ∙ ap (λ (k : ℕ). kind_or old k xs) e

done_from : (old new : List ℕ) (blocks : ℕ → List Block) (left : List ℕ) (p n : ℕ) (right unused : List ℕ)
    → Linked (node_at old) (header_of old) (left ++ p ∷ n ∷ right) unused
    → (node_at old p).kind ≡ 1 → (node_at old n).kind ≡ 1
    → NoTwo (node_at old) 2 (left ++ p ∷ []) → NoTwo (node_at old) 1 right → IsRestZero old
    → ((rank : ℕ) → blocks_of rank (node_at old) (left ++ p ∷ n ∷ right) ≡ blocks rank)
    → NodesAre new (joined_nodes p n (first_unused old) (node_at old))
    → header_of new ≡ record {
      first = first_node old;
      unused = n;
      blocks = live_blocks old;
      holes = hole_count old - 1;
    }
    → BytesStay old new 0 0 → Done new blocks
done_from old new blocks left p n right unused l before hole front back zeros spelled are header stay =
    let nodes = node_at old in
    let j = joins old new left p n right unused l before hole are header in
    let after = left ++ p ∷ right in
    let no_hole = (no_two_back nodes 2 left (p ∷ []) front).0 in
    let same = kind_or_alike nodes (node_at new) 2 left j.in_left in
    let both : NoTwo (node_at new) 2 after =
    no_two_whole (node_at new) 2 left (p ∷ right)
    (no_two_alike nodes (node_at new) 2 left j.in_left (no_two_parts nodes 2 left (p ∷ []) front)) (
      λ e. let full = no_hole (sym same ∙ e) in absurd (omega (arith, full, before)),
      no_two_weaker (node_at new) 1 (node_at new p).kind right (λ e. refl) (no_two_alike nodes (node_at new) 1 right j.in_right back),
    ) in
    record {
      used = after;
      unused = n ∷ unused;
      sound = from_linked new after (n ∷ unused) j.linked both (rest_zero old new stay zeros);
      are = λ rank. j.are rank ∙ spelled rank;
    }

-- the hole n was joined to the one before it
pub done_joined : (old new : List ℕ) (blocks : ℕ → List Block) (left : List ℕ) (p n : ℕ) (h : Half old blocks left n)
    → p ≡ (node_at old n).previous → p < node_count → (node_at old p).kind ≡ 1 → NodesAre new (joined_nodes p n (first_unused old) (node_at old))
    → header_of new ≡ record {
      first = first_node old;
      unused = n;
      blocks = live_blocks old;
      holes = hole_count old - 1;
    }
    → BytesStay old new 0 0 → Done new blocks
done_joined old new blocks left p n h previous below hole are header stay =
    let l = h.loose in
    let nodes = node_at old in
    let b = before_is left p no_node (previous ∙ loose_previous old blocks left n h.right h.unused l) (λ e. omega (arith, e, below)) in
    let same : left ++ n ∷ h.right ≡ b.rest ++ p ∷ n ∷ h.right = ap (λ (xs : List ℕ). xs ++ n ∷ h.right) b.is ∙ simp append_assoc in
    let L : List ℕ → Type 0 = λ xs. Linked nodes (header_of old) xs h.unused in
    let N : List ℕ → Type 0 = λ xs. NoTwo nodes 2 xs in
    done_from old new blocks b.rest p n h.right h.unused (subst L same l.linked) hole l.hole (subst N b.is l.front) h.done l.zeros
    (λ rank. ap (λ (xs : List ℕ). blocks_of rank nodes xs) (sym same) ∙ l.are rank) are header stay

pub can_join_before : (bytes : List ℕ) (blocks : ℕ → List Block) (left : List ℕ) (p n : ℕ) (h : Half bytes blocks left n)
    → p ≡ (node_at bytes n).previous → p < node_count → (node_at bytes p).kind ≡ 1 → CanJoin bytes p n
can_join_before bytes blocks left p n h previous below hole =
    let l = h.loose in
    let b = before_is left p no_node (previous ∙ loose_previous bytes blocks left n h.right h.unused l) (λ e. omega (arith, e, below)) in
    let same : left ++ n ∷ h.right ≡ b.rest ++ p ∷ n ∷ h.right = ap (λ (xs : List ℕ). xs ++ n ∷ h.right) b.is ∙ simp append_assoc in
    let L : List ℕ → Type 0 = λ xs. Linked (node_at bytes) (header_of bytes) xs h.unused in
    can_join bytes b.rest p n h.right h.unused (subst L same l.linked) hole

-- the blocks without the one that was given back
pub vacated : (old new : List ℕ) (number : ℕ) (u : IsUsed old number) → (node_at old number).kind ≡ 2
    → Done new (others old u.left u.right) → Vacates old new (node_at old number).start
vacated old new number u full d rank blocks spelled =
    let nodes = node_at old in
    let used = u.left ++ number ∷ u.right in
    let l = to_linked old used u.unused u.sound in
    let b = beside nodes u.left number u.right l.heap.chain in
    let start = b.link.start in
    let some = b.link.some in
    let are = spelled_is rank old blocks used u.unused spelled u.sound
    ∙ blocks-append rank nodes u.left (number ∷ u.right)
    ∙ ap (λ (bs : List Block). blocks_of rank nodes u.left ++ bs) (blocks_block rank nodes number u.right full) in
    let gone = without_between rank nodes no_node 0 number b.mid u.left number (b.mid + (nodes number).units) no_node heap_units u.right (nodes number).start
    (piece rank (nodes number)) refl (omega (arith, start)) (omega (arith, start, some)) b.front b.back in
    spells rank new (without (address_of rank (nodes number).start) blocks) d.used d.unused d.sound
    (ap (without (address_of rank (nodes number).start)) are ∙ gone ∙ sym (d.are rank))

-- a block's address is that of a live one
pub block_lives : (rank : ℕ) (bytes : List ℕ) (address number : ℕ) → IsBlockAt rank bytes address number
    → (blocks : List Block) → SpellsBlocks rank bytes blocks → IsLive address blocks
block_lives rank bytes address number a blocks spelled =
    let u = a.used in
    let nodes = node_at bytes in
    let are = spelled_is rank bytes blocks (u.left ++ number ∷ u.right) u.unused spelled u.sound
    ∙ blocks-append rank nodes u.left (number ∷ u.right)
    ∙ ap (λ (bs : List Block). blocks_of rank nodes u.left ++ bs) (blocks_block rank nodes number u.right a.block) in
    subst (IsLive address) (sym are)
    (live_between address (blocks_of rank nodes u.left) (piece rank (nodes number)) (blocks_of rank nodes u.right) (sym a.here))

single_most : (a b : ℕ) → single a b ≤ 1
single_most a b =
    elim (cases_eq a b) [
      | inl same ↦ let one = single_here a b same in omega (arith, one)
      | inr other ↦ let none = single_other a b other in omega (arith, none)
    ]

segment_count : (nodes : ℕ → Node) (b f a t kind : ℕ) (xs : List ℕ) → Segment nodes b f a t xs → f + count_of nodes kind xs ≤ t
segment_count nodes b f a t kind [] chain = omega (arith, chain)
segment_count nodes b f a t kind (x ∷ xs) chain =
    let rest = segment_count nodes x (f + (nodes x).units) a t kind xs chain.1 in
    let one = single_most (nodes x).kind kind in
    let some = chain.0.some in
    omega (arith, rest, one, some)

pub few_holes : (bytes : List ℕ) (number : ℕ) → IsUsed bytes number → hole_count bytes ≤ heap_units
few_holes bytes number u =
    let used = u.left ++ number ∷ u.right in
    let l = to_linked bytes used u.unused u.sound in
    let most = segment_count (node_at bytes) no_node 0 no_node heap_units 1 used l.heap.chain in
    omega (arith, l.holes, most)

-- the node before n is the same as it was when it was read
pub same_previous : (old new : List ℕ) (blocks : ℕ → List Block) (left : List ℕ) (n : ℕ) (right unused : List ℕ) (p : ℕ)
    → Loose old blocks left n right unused → Half new blocks left n → p ≡ (node_at old n).previous → p ≡ (node_at new n).previous
same_previous old new blocks left n right unused p l h e =
    e ∙ loose_previous old blocks left n right unused l ∙ sym (loose_previous new blocks left n h.right h.unused h.loose)

-- a number that is that of the next node tells of it
pub hole_at : (bytes : List ℕ) (n m : ℕ) → m ≡ (node_at bytes n).next → (node_at bytes n).next < node_count
    → (node_at bytes (node_at bytes n).next).kind ≡ 1 → (m < node_count) × ((node_at bytes m).kind ≡ 1)
hole_at bytes n m e below hole =
    let P : ℕ → Type 0 = λ k. (k < node_count) × ((node_at bytes k).kind ≡ 1) in subst P (sym e) (below, hole)

pub hole_before : (bytes : List ℕ) (n p : ℕ) → p ≡ (node_at bytes n).previous → (node_at bytes n).previous < node_count
    → (node_at bytes (node_at bytes n).previous).kind ≡ 1 → (p < node_count) × ((node_at bytes p).kind ≡ 1)
hole_before bytes n p e below hole =
    let P : ℕ → Type 0 = λ k. (k < node_count) × ((node_at bytes k).kind ≡ 1) in subst P (sym e) (below, hole)
