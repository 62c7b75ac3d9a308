-- What filling and splitting a hole do to the live blocks that the bytes spell.
use Rattle.std.proofs.Common.{◌≡◌, ℕ, ◌+◌, ◌-◌, ◌*◌, ◌<◌, ◌≤◌, ◌⊎◌, inl, inr, List, [], ◌∷◌, ◌++◌, ◌∙◌, refl, sym, ap, subst, arith}
use Rattle.rank_range.specs.Nodes.{Node, node_at, node_count, no_node, heap_units, live_blocks, hole_count, first_node, first_unused}
use Rattle.rank_range.specs.Heap.{most_blocks}
use Rattle.rank_range.specs.declared.heap.Block.{Block}
use Rattle.isomalloc.specs.declared.nodes.Header.{Header}
use Rattle.rank_range.specs.Heap.{with_block}
use Rattle.isomalloc.specs.Heap.{BytesStay}
use Rattle.isomalloc.specs.Entries.{MayBeNode, NodesAre, header_of, with_kind, split_nodes}
use Rattle.isomalloc.specs.Search.{IsUsed, Occupies}
use Rattle.isomalloc.proofs.Bytes.{with_node-here}
use Rattle.isomalloc.proofs.Shape.{first_or, last_or, Segment, IsHeapOf, NoTwo, count_of, piece, blocks_of, alike_same, single, segment_below, SameIn, AlikeIn, count_alike, blocks_alike, no_two_alike, count-append, blocks-append, no_two_parts, no_two_back, no_two_whole, no_two_weaker}
use Rattle.isomalloc.proofs.Steps.{alone_at, with_same, rekinded, Beside, beside, rekind_heap, around_left, around_right, split_heap}
use Rattle.isomalloc.proofs.Sound.{Linked, to_linked, sound_no_two, from_linked, rest_zero, spelled_is, spells, are_alike, linked_are}
use Rattle.isomalloc.proofs.Blocks.{address_of, segment_order, blocks_hole, blocks_block, with_between}
use Rattle.isomalloc.proofs.Room.{has_spare}

pub first_may : (nodes : ℕ → Node) (b f t : ℕ) (xs : List ℕ) → Segment nodes b f no_node t xs → MayBeNode (first_or no_node xs)
first_may nodes b f t [] chain = inr refl
first_may nodes b f t (x ∷ xs) chain = inl chain.0.below

pub last_may : (nodes : ℕ → Node) (b f a t : ℕ) (xs : List ℕ) → MayBeNode b → Segment nodes b f a t xs → MayBeNode (last_or b xs)
last_may nodes b f a t [] known chain = known
last_may nodes b f a t (x ∷ xs) known chain = last_may nodes x (f + (nodes x).units) a t xs (inl chain.0.below) chain.1

-- What is known of a used node.
pub record Known (bytes : List ℕ) (number : ℕ) : Type 0 where
  pub below : number < node_count
  pub next : MayBeNode (node_at bytes number).next
  pub previous : MayBeNode (node_at bytes number).previous
  pub inside : (node_at bytes number).start + (node_at bytes number).units ≤ heap_units
  pub some : 1 ≤ (node_at bytes number).units

pub known : (bytes : List ℕ) (number : ℕ) → IsUsed bytes number → Known bytes number
known bytes number u =
    let l = to_linked bytes (u.left ++ number ∷ u.right) u.unused u.sound in
    let b = beside (node_at bytes) u.left number u.right l.heap.chain in
    let order = segment_order (node_at bytes) number (b.mid + (node_at bytes number).units) no_node heap_units u.right b.back in
    record {
      below = b.link.below;
      next = subst MayBeNode (sym b.link.next) (first_may (node_at bytes) number (b.mid + (node_at bytes number).units) heap_units u.right b.back);
      previous = subst MayBeNode (sym b.link.previous) (last_may (node_at bytes) no_node 0 number b.mid u.left (inr refl) b.front);
      inside = omega (arith, order, b.link.start);
      some = b.link.some;
    }

pub count_around : (nodes : ℕ → Node) (kind : ℕ) (left : List ℕ) (n : ℕ) (right : List ℕ)
    → count_of nodes kind (left ++ n ∷ right) ≡ count_of nodes kind left + (single (nodes n).kind kind + count_of nodes kind right)
count_around nodes kind left n right = count-append nodes kind left (n ∷ right)

pub used_holes : (bytes : List ℕ) (number : ℕ) → IsUsed bytes number → (node_at bytes number).kind ≡ 1 → 1 ≤ hole_count bytes
used_holes bytes number u hole =
    let l = to_linked bytes (u.left ++ number ∷ u.right) u.unused u.sound in
    let sum = count_around (node_at bytes) 1 u.left number u.right in
    let one : single (node_at bytes number).kind 1 ≡ 1 = ap (λ (k : ℕ). single k 1) hole in
    omega (arith, l.holes, sum, one)

pub used_spare : (bytes : List ℕ) (number : ℕ) → IsUsed bytes number → live_blocks bytes < most_blocks → first_unused bytes < node_count
used_spare bytes number u few =
    let used = u.left ++ number ∷ u.right in
    let l = to_linked bytes used u.unused u.sound in
    let spare = has_spare (node_at bytes) (header_of bytes) used u.unused l (sound_no_two bytes used u.unused u.sound) few in
    let P : List ℕ → Type 0 = λ xs. Linked (node_at bytes) (header_of bytes) used xs in
    let l' = subst P spare.is l in
    let Q : ℕ → Type 0 = λ k. k < node_count in
    subst Q (sym l'.spare) l'.heap.spare.0.below

same_alike : (old new : ℕ → Node) (b f a t : ℕ) (xs : List ℕ) → SameIn old new xs → Segment old b f a t xs → AlikeIn old new xs
same_alike old new b f a t xs same chain k some = alike_same (new k) (old k) (same k (segment_below old b f a t xs k chain some) some)

-- What putting a node's kind leaves.
pub record Rekinded (old : ℕ → Node) (kind : ℕ) (left : List ℕ) (n : ℕ) (right unused : List ℕ) : Type 0 where
  pub heap : IsHeapOf (rekinded kind n old) (left ++ n ∷ right) unused
  pub here : (rekinded kind n old n) ≡ with_kind kind (old n)
  pub in_left : AlikeIn old (rekinded kind n old) left
  pub in_right : AlikeIn old (rekinded kind n old) right

pub rekind : (old : ℕ → Node) (kind : ℕ) (left : List ℕ) (n : ℕ) (right unused : List ℕ) → (kind ≡ 1) ⊎ (kind ≡ 2)
    → IsHeapOf old (left ++ n ∷ right) unused → Rekinded old kind left n right unused
rekind old kind left n right unused one_or_two heap =
    let b = beside old left n right heap.chain in
    let node = with_kind kind (old n) in
    let new = rekinded kind n old in
    let alone = alone_at n left right unused (heap.once n b.link.below) in
    record {
      heap = rekind_heap old kind n left right unused one_or_two heap;
      here = with_node-here n node old n refl;
      in_left = same_alike old new no_node 0 n b.mid left (with_same old n node left alone.in_left) b.front;
      in_right = same_alike old new n (b.mid + (old n).units) no_node heap_units right (with_same old n node right alone.in_right) b.back;
    }

-- the node's kind counts
pub rekind_count : (old : ℕ → Node) (kind : ℕ) (left : List ℕ) (n : ℕ) (right unused : List ℕ) (counted : ℕ)
    → Rekinded old kind left n right unused
    → count_of (rekinded kind n old) counted (left ++ n ∷ right) ≡ count_of old counted left + (single kind counted + count_of old counted right)
rekind_count old kind left n right unused counted r =
    let new = rekinded kind n old in
    let sum = count_around new counted left n right in
    let at_left = count_alike old new counted left r.in_left in
    let at_right = count_alike old new counted right r.in_right in
    let here : single (new n).kind counted ≡ single kind counted = ap (λ (x : Node). single x.kind counted) r.here in
    omega (arith, sum, at_left, at_right, here)

-- A block stands between the others.
occupied : (rank : ℕ) (old : ℕ → Node) (left : List ℕ) (n : ℕ) (right : List ℕ) (units : ℕ) → (old n).kind ≡ 1 → Beside old left n right
    → blocks_of rank old left ++ record { address = address_of rank (old n).start; length = 16 * units } ∷ blocks_of rank old right
    ≡ with_block (record { address = address_of rank (old n).start; length = 16 * units }) (blocks_of rank old (left ++ n ∷ right))
occupied rank old left n right units hole b =
    let block : Block = record { address = address_of rank (old n).start; length = 16 * units } in
    let apart = blocks-append rank old left (n ∷ right) ∙ ap (λ (bs : List Block). blocks_of rank old left ++ bs) (blocks_hole rank old n right hole) in
    sym (with_between rank old no_node 0 n b.mid left n (b.mid + (old n).units) no_node heap_units right (old n).start block
    refl (omega (arith, b.link.start)) (omega (arith, b.link.start)) b.front b.back)
    ∙ ap (with_block block) (sym apart)

pub filled : (old new : List ℕ) (number : ℕ) → IsUsed old number → (node_at old number).kind ≡ 1 → live_blocks old < most_blocks
    → NodesAre new (rekinded 2 number (node_at old))
    → header_of new ≡ record {
      first = first_node old;
      unused = first_unused old;
      blocks = live_blocks old + 1;
      holes = hole_count old - 1;
    }
    → BytesStay old new 0 0 → Occupies old new (node_at old number).start (node_at old number).units
filled old new number u hole few are header stay rank blocks spelled =
    let left = u.left in
    let right = u.right in
    let used = left ++ number ∷ right in
    let nodes = node_at old in
    let now = rekinded 2 number nodes in
    let l = to_linked old used u.unused u.sound in
    let none = sound_no_two old used u.unused u.sound in
    let b = beside nodes left number right l.heap.chain in
    let r = rekind nodes 2 left number right u.unused (inr refl) l.heap in
    let was : single (nodes number).kind 2 ≡ 0 = ap (λ (k : ℕ). single k 2) hole in
    let was_hole : single (nodes number).kind 1 ≡ 1 = ap (λ (k : ℕ). single k 1) hole in
    let old_blocks = count_around nodes 2 left number right in
    let old_holes = count_around nodes 1 left number right in
    let new_blocks = rekind_count nodes 2 left number right u.unused 2 r in
    let new_holes = rekind_count nodes 2 left number right u.unused 1 r in
    let next : Header = record {
      first = first_node old;
      unused = first_unused old;
      blocks = live_blocks old + 1;
      holes = hole_count old - 1;
    } in
    let linked : Linked now next used u.unused = record {
      heap = r.heap;
      first = l.first;
      spare = l.spare;
      blocks = omega (arith, l.blocks, old_blocks, new_blocks, was);
      holes = omega (arith, l.holes, old_holes, new_holes, was_hole);
      few = omega (arith, few);
    } in
    let front = no_two_alike nodes now 2 left r.in_left (no_two_parts nodes 2 left (number ∷ right) none) in
    let full : (now number).kind ≡ 2 = ap (λ (x : Node). x.kind) r.here in
    let back = no_two_alike nodes now (nodes number).kind right r.in_right (no_two_back nodes 2 left (number ∷ right) none).1 in
    let both : NoTwo now 2 used =
    no_two_whole now 2 left (number ∷ right) front
    (λ e. full, no_two_weaker now (nodes number).kind (now number).kind right (λ e. absurd (omega (arith, e, full))) back) in
    let alike = are_alike new now no_node 0 no_node heap_units used are linked.heap.chain in
    let sound = from_linked new used u.unused (linked_are new now next used u.unused are header linked) (no_two_alike now (node_at new) 2 used alike both)
    (rest_zero old new stay u.sound.header_rest) in
    let block : Block = record { address = address_of rank (nodes number).start; length = 16 * (nodes number).units } in
    let here : piece rank (now number) ≡ block = ap (λ (x : Node). piece rank x) r.here in
    let whole : blocks_of rank (node_at new) used ≡ blocks_of rank nodes left ++ block ∷ blocks_of rank nodes right =
    blocks_alike rank now (node_at new) used alike ∙ blocks-append rank now left (number ∷ right)
    ∙ ap (λ (bs : List Block). bs ++ blocks_of rank now (number ∷ right)) (blocks_alike rank nodes now left r.in_left)
    ∙ ap (λ (bs : List Block). blocks_of rank nodes left ++ bs)
    (blocks_block rank now number right full ∙ ap (λ (p : Block). p ∷ blocks_of rank now right) here
    ∙ ap (λ (bs : List Block). block ∷ bs) (blocks_alike rank nodes now right r.in_right)) in
    spells rank new (with_block block blocks) used u.unused sound
    (ap (with_block block) (spelled_is rank old blocks used u.unused spelled u.sound)
    ∙ sym (occupied rank nodes left number right (nodes number).units hole b) ∙ sym whole)

-- the first node stays the first
pub first_same : (left : List ℕ) (n : ℕ) (xs ys : List ℕ) → first_or no_node (left ++ n ∷ xs) ≡ first_or no_node (left ++ n ∷ ys)
first_same [] n xs ys = refl
first_same (x ∷ left) n xs ys = refl

pub parted : (old new : List ℕ) (number units : ℕ) → IsUsed old number → (node_at old number).kind ≡ 1 → live_blocks old < most_blocks
    → 1 ≤ units → units < (node_at old number).units
    → NodesAre new (split_nodes number units (first_unused old) (node_at old))
    → header_of new ≡ record {
      first = first_node old;
      unused = (node_at old (first_unused old)).next;
      blocks = live_blocks old + 1;
      holes = hole_count old;
    }
    → BytesStay old new 0 0 → Occupies old new (node_at old number).start units
parted old new number units u hole few some room are header stay rank blocks spelled =
    let left = u.left in
    let right = u.right in
    let used = left ++ number ∷ right in
    let nodes = node_at old in
    let spare = first_unused old in
    let now = split_nodes number units spare nodes in
    let l0 = to_linked old used u.unused u.sound in
    let none = sound_no_two old used u.unused u.sound in
    let has = has_spare nodes (header_of old) used u.unused l0 none few in
    let rest = has.rest in
    let L : List ℕ → Type 0 = λ xs. Linked nodes (header_of old) used xs in
    let l1 = subst L has.is l0 in
    let M : ℕ → Type 0 = λ k. Linked nodes (header_of old) used (k ∷ rest) in
    let l = subst M (sym l1.spare) l1 in
    let b = beside nodes left number right l.heap.chain in
    let s = split_heap nodes number units spare left right rest some room l.heap in
    let after = left ++ number ∷ spare ∷ right in
    let in_left = around_left nodes now left spare right no_node 0 number b.mid s.around b.front in
    let in_right = around_right nodes now left spare right number (b.mid + (nodes number).units) no_node heap_units s.around b.back in
    let full : (now number).kind ≡ 2 = ap (λ (x : Node). x.kind) s.block in
    let gap : (now spare).kind ≡ 1 = ap (λ (x : Node). x.kind) s.hole in
    let counted : (kind : ℕ) → count_of now kind after
    ≡ count_of nodes kind left + (single 2 kind + (single 1 kind + count_of nodes kind right)) =
    λ kind.
    let sum = count_around now kind left number (spare ∷ right) in
    let at_left = count_alike nodes now kind left in_left in
    let at_right = count_alike nodes now kind right in_right in
    let block : single (now number).kind kind ≡ single 2 kind = ap (λ (k : ℕ). single k kind) full in
    let left_over : single (now spare).kind kind ≡ single 1 kind = ap (λ (k : ℕ). single k kind) gap in
    omega (arith, sum, at_left, at_right, block, left_over) in
    let was : single (nodes number).kind 2 ≡ 0 = ap (λ (k : ℕ). single k 2) hole in
    let was_hole : single (nodes number).kind 1 ≡ 1 = ap (λ (k : ℕ). single k 1) hole in
    let old_blocks = count_around nodes 2 left number right in
    let old_holes = count_around nodes 1 left number right in
    let new_blocks : count_of now 2 after ≡ count_of nodes 2 left + (1 + (0 + count_of nodes 2 right)) = counted 2 in
    let new_holes : count_of now 1 after ≡ count_of nodes 1 left + (0 + (1 + count_of nodes 1 right)) = counted 1 in
    let next : Header = record {
      first = first_node old;
      unused = (nodes spare).next;
      blocks = live_blocks old + 1;
      holes = hole_count old;
    } in
    let linked : Linked now next after rest = record {
      heap = s.heap;
      first = l.first ∙ first_same left number right (spare ∷ right);
      spare = l.heap.spare.0.next;
      blocks = omega (arith, l.blocks, old_blocks, new_blocks, was);
      holes = omega (arith, l.holes, old_holes, new_holes, was_hole);
      few = omega (arith, few);
    } in
    let front = no_two_alike nodes now 2 left in_left (no_two_parts nodes 2 left (number ∷ right) none) in
    let back = no_two_alike nodes now (nodes number).kind right in_right (no_two_back nodes 2 left (number ∷ right) none).1 in
    let from_spare : NoTwo now (now number).kind (spare ∷ right) =
    (λ e. absurd (omega (arith, e, full)), no_two_weaker now (nodes number).kind (now spare).kind right (λ e. hole) back) in
    let both : NoTwo now 2 after = no_two_whole now 2 left (number ∷ spare ∷ right) front (λ e. full, from_spare) in
    let alike = are_alike new now no_node 0 no_node heap_units after are linked.heap.chain in
    let sound = from_linked new after rest (linked_are new now next after rest are header linked) (no_two_alike now (node_at new) 2 after alike both)
    (rest_zero old new stay u.sound.header_rest) in
    let block : Block = record { address = address_of rank (nodes number).start; length = 16 * units } in
    let here : piece rank (now number) ≡ block = ap (λ (x : Node). piece rank x) s.block in
    let whole : blocks_of rank (node_at new) after ≡ blocks_of rank nodes left ++ block ∷ blocks_of rank nodes right =
    blocks_alike rank now (node_at new) after alike ∙ blocks-append rank now left (number ∷ spare ∷ right)
    ∙ ap (λ (bs : List Block). bs ++ blocks_of rank now (number ∷ spare ∷ right)) (blocks_alike rank nodes now left in_left)
    ∙ ap (λ (bs : List Block). blocks_of rank nodes left ++ bs)
    (blocks_block rank now number (spare ∷ right) full ∙ ap (λ (p : Block). p ∷ blocks_of rank now (spare ∷ right)) here
    ∙ ap (λ (bs : List Block). block ∷ bs) (blocks_hole rank now spare right gap ∙ blocks_alike rank nodes now right in_right)) in
    spells rank new (with_block block blocks) after rest sound
    (ap (with_block block) (spelled_is rank old blocks used u.unused spelled u.sound)
    ∙ sym (occupied rank nodes left number right units hole b) ∙ sym whole)
