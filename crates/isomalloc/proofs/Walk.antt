-- The ways through the used nodes.
use Rattle.std.proofs.Common.{◌≡◌, ℕ, ◌+◌, ◌-◌, ◌*◌, ◌<◌, ◌≤◌, ◌==◌, ◌⊎◌, Bool, true, false, if◌then◌else◌, inl, inr, List, [], ◌∷◌, ◌++◌, ◌∙◌, refl, sym, ap, subst, arith, append_assoc, append-nil}
use Rattle.std.proofs.lemmas.Bool.{cases_lt, eq-eqb, ne_eqb, both_ways}
use Rattle.rank_range.specs.Layout.{base_of}
use Rattle.rank_range.specs.Heap.{Fits, rounded}
use Rattle.rank_range.specs.Nodes.{Node, node_at, node_count, no_node, heap_units, IsSoundHeap, first_node}
use Rattle.rank_range.specs.declared.heap.Block.{Block}
use Rattle.rank_range.proofs.HeapLemmas.{NoneBelow, none_before}
use Rattle.rank_range.specs.Heap.{IsLive}
use Rattle.isomalloc.specs.Search.{IsAnyHeap, IsUsed, FitsNowhere, IsFirstHole, IsDead, IsBlockAt}
use Rattle.isomalloc.proofs.Shape.{first_or, Segment, NoTwo, blocks_of, blocks-append, no_two_back}
use Rattle.isomalloc.proofs.Steps.{beside}
use Rattle.isomalloc.proofs.Sound.{to_linked, sound_no_two, spelled_is}
use Rattle.isomalloc.proofs.Blocks.{address_of, none_more, none_in_block, none_in_hole, none_live, blocks_hole, blocks_block, live-append}
use Rattle.isomalloc.proofs.Taken.{known}

-- where the first of the nodes begins
abbrev pub place_of : (ℕ → Node) → List ℕ → ℕ
place_of nodes [] = heap_units
place_of nodes (x ∷ xs) = (nodes x).start

segment_place : (nodes : ℕ → Node) (b f a : ℕ) (xs : List ℕ) → Segment nodes b f a heap_units xs → place_of nodes xs ≡ f
segment_place nodes b f a [] chain = sym chain
segment_place nodes b f a (x ∷ xs) chain = chain.0.start

pub segment_first : (nodes : ℕ → Node) (b f a t : ℕ) (xs : List ℕ) → Segment nodes b f no_node t xs → (first_or no_node xs < node_count) ⊎ (xs ≡ [])
segment_first nodes b f a t [] chain = inr refl
segment_first nodes b f a t (x ∷ xs) chain = inl chain.0.below

-- what is left of a way, for its measure
abbrev pub way_left : List ℕ → ℕ → ℕ
way_left bytes number = if number == no_node then 0 else heap_units + 1 - (node_at bytes number).start

way_end : (bytes : List ℕ) (number : ℕ) → number ≡ no_node → way_left bytes number ≡ 0
way_end bytes number none = rw (eq-eqb number no_node none) refl

way_node : (bytes : List ℕ) (number : ℕ) → number < node_count → way_left bytes number ≡ heap_units + 1 - (node_at bytes number).start
way_node bytes number below = rw (ne_eqb number no_node (λ e. omega (arith, e, below))) refl

pub way_shorter : (bytes : List ℕ) (number : ℕ) → IsUsed bytes number → way_left bytes (node_at bytes number).next < way_left bytes number
way_shorter bytes number u =
    let nodes = node_at bytes in
    let l = to_linked bytes (u.left ++ number ∷ u.right) u.unused u.sound in
    let b = beside nodes u.left number u.right l.heap.chain in
    let k = known bytes number u in
    let here = way_node bytes number k.below in
    let place = segment_place nodes number (b.mid + (nodes number).units) no_node u.right b.back in
    let start = b.link.start in
    let some = b.link.some in
    let inside = k.inside in
    let P : ℕ → Type 0 = λ n. way_left bytes n < way_left bytes number in
    let shorter : (xs : List ℕ) → place_of nodes xs ≡ b.mid + (nodes number).units
    → Segment nodes number (b.mid + (nodes number).units) no_node heap_units xs → way_left bytes (first_or no_node xs) < way_left bytes number =
    λ xs. elim xs as (λ ys. place_of nodes ys ≡ b.mid + (nodes number).units
    → Segment nodes number (b.mid + (nodes number).units) no_node heap_units ys → way_left bytes (first_or no_node ys) < way_left bytes number) [
      | [] ↦ λ e chain. let end = way_end bytes no_node refl in omega (arith, end, here, some, inside)
      | y ∷ ys ↦ λ e chain. let there = way_node bytes y chain.0.below in omega (arith, there, here, some, inside, e, start)
    ] in
    subst P (sym b.link.next) (shorter u.right place b.back)

-- A way that came to the node, with what holds of the blocks and the unit up to which it went.
pub record Reached (bytes : List ℕ) (Holds : List ℕ → List ℕ → Type 0) (number : ℕ) : Type 0 where
  pub left : List ℕ
  pub right : List ℕ
  pub unused : List ℕ
  pub sound : IsSoundHeap bytes (left ++ right) unused
  pub here : number ≡ first_or no_node right
  pub holds : Holds left right

pub reached_start : (bytes : List ℕ) (Holds : List ℕ → List ℕ → Type 0) → ((used : List ℕ) → Holds [] used) → IsAnyHeap bytes → Reached bytes Holds (first_node bytes)
reached_start bytes Holds start any =
    record {
      left = [];
      right = any.used;
      unused = any.unused;
      sound = any.sound;
      here = (to_linked bytes any.used any.unused any.sound).first;
      holds = start any.used;
    }

-- A way at a node.
pub record AtNode (bytes : List ℕ) (Holds : List ℕ → List ℕ → Type 0) (number : ℕ) : Type 0 where
  pub used : IsUsed bytes number
  pub holds : Holds used.left (number ∷ used.right)

at_node : (bytes : List ℕ) (Holds : List ℕ → List ℕ → Type 0) (number : ℕ) (left right unused : List ℕ) → IsSoundHeap bytes (left ++ right) unused
    → number ≡ first_or no_node right → Holds left right → (number ≡ no_node → ⊥) → AtNode bytes Holds number
at_node bytes Holds number left [] unused sound here holds some = absurd (some here)
at_node bytes Holds number left (x ∷ xs) unused sound here holds some =
    let P : ℕ → Type 0 = AtNode bytes Holds in
    subst P (sym here) (record { used = record { left = left; right = xs; unused = unused; sound = sound }; holds = holds })

pub reached_node : (bytes : List ℕ) (Holds : List ℕ → List ℕ → Type 0) (number : ℕ) → Reached bytes Holds number → (number ≡ no_node → ⊥)
    → AtNode bytes Holds number
reached_node bytes Holds number r some = at_node bytes Holds number r.left r.right r.unused r.sound r.here r.holds some

pub reached_next : (bytes : List ℕ) (Holds : List ℕ → List ℕ → Type 0) (number : ℕ) (a : AtNode bytes Holds number)
    → Holds (a.used.left ++ number ∷ []) a.used.right → Reached bytes Holds (node_at bytes number).next
reached_next bytes Holds number a holds =
    let u = a.used in
    let l = to_linked bytes (u.left ++ number ∷ u.right) u.unused u.sound in
    let b = beside (node_at bytes) u.left number u.right l.heap.chain in
    let same : u.left ++ number ∷ u.right ≡ (u.left ++ number ∷ []) ++ u.right = simp append_assoc in
    let P : List ℕ → Type 0 = λ xs. IsSoundHeap bytes xs u.unused in
    record {
      left = u.left ++ number ∷ [];
      right = u.right;
      unused = u.unused;
      sound = subst P same u.sound;
      here = b.link.next;
      holds = holds;
    }

at_end : (bytes : List ℕ) (number : ℕ) (left right unused : List ℕ) → IsSoundHeap bytes (left ++ right) unused → number ≡ first_or no_node right
    → number ≡ no_node → right ≡ []
at_end bytes number left [] unused sound here none = refl
at_end bytes number left (x ∷ xs) unused sound here none =
    let u : IsUsed bytes x = record { left = left; right = xs; unused = unused; sound = sound } in
    let below = (known bytes x u).below in
    absurd (omega (arith, below, here, none))

-- A way at its end.
pub record AtEnd (bytes : List ℕ) (Holds : List ℕ → List ℕ → Type 0) : Type 0 where
  pub left : List ℕ
  pub unused : List ℕ
  pub sound : IsSoundHeap bytes left unused
  pub holds : Holds left []

pub reached_end : (bytes : List ℕ) (Holds : List ℕ → List ℕ → Type 0) (number : ℕ) → Reached bytes Holds number → number ≡ no_node → AtEnd bytes Holds
reached_end bytes Holds number r none =
    let e = at_end bytes number r.left r.right r.unused r.sound r.here none in
    let P : List ℕ → Type 0 = Holds r.left in
    let Q : List ℕ → Type 0 = λ xs. IsSoundHeap bytes xs r.unused in
    let whole : r.left ++ r.right ≡ r.left = ap (λ (xs : List ℕ). r.left ++ xs) e ∙ append-nil r.left in
    record { left = r.left; unused = r.unused; sound = subst Q whole r.sound; holds = subst P e r.holds }

-- the first node may be read as a number of a node
pub first_small : (bytes : List ℕ) → IsAnyHeap bytes → first_node bytes < 65536
first_small bytes any =
    let l = to_linked bytes any.used any.unused any.sound in
    let P : ℕ → Type 0 = λ k. k < 65536 in
    let small : (xs : List ℕ) → Segment (node_at bytes) no_node 0 no_node heap_units xs → first_or no_node xs < 65536 =
    λ xs. elim xs as (λ ys. Segment (node_at bytes) no_node 0 no_node heap_units ys → first_or no_node ys < 65536) [
      | [] ↦ λ chain. omega arith
      | y ∷ ys ↦ λ chain. omega (arith, chain.0.below)
    ] in
    subst P (sym l.first) (small any.used l.heap.chain)

-- No block of that size may stand before the nodes on the right.
abbrev pub NoRoom : ℕ → List ℕ → ℕ → List ℕ → List ℕ → Type 0
NoRoom rank bytes size left right =
    NoneBelow rank (blocks_of rank (node_at bytes) (left ++ right)) size (place_of (node_at bytes) right)

pub no_room_start : (rank : ℕ) (bytes : List ℕ) (size : ℕ) → IsAnyHeap bytes → Reached bytes (NoRoom rank bytes size) (first_node bytes)
no_room_start rank bytes size any =
    let l = to_linked bytes any.used any.unused any.sound in
    let place = segment_place (node_at bytes) no_node 0 no_node any.used l.heap.chain in
    record {
      left = [];
      right = any.used;
      unused = any.unused;
      sound = any.sound;
      here = l.first;
      holds = λ k below fits. absurd (omega (arith, below, place));
    }

pub no_room_next : (rank : ℕ) (bytes : List ℕ) (size number : ℕ) → AtNode bytes (NoRoom rank bytes size) number
    → ((node_at bytes number).kind ≡ 1 → 16 * (node_at bytes number).units < rounded size)
    → Reached bytes (NoRoom rank bytes size) (node_at bytes number).next
no_room_next rank bytes size number a small =
    let nodes = node_at bytes in
    let u = a.used in
    let used = u.left ++ number ∷ u.right in
    let l = to_linked bytes used u.unused u.sound in
    let b = beside nodes u.left number u.right l.heap.chain in
    let start = b.link.start in
    let none = no_two_back nodes 2 u.left (number ∷ u.right) (sound_no_two bytes used u.unused u.sound) in
    let S : ℕ → Type 0 = λ i. Segment nodes number (i + (nodes number).units) no_node heap_units u.right in
    let back = subst S (sym start) b.back in
    let here : (k : ℕ) → (nodes number).start ≤ k → k < (nodes number).start + (nodes number).units
    → Fits rank (blocks_of rank nodes used) size (address_of rank k) → ⊥ =
    λ k low high fits. elim b.link.kind [
      | inl hole ↦ let N : ℕ → Type 0 = λ i. NoTwo nodes i u.right in
          none_in_hole rank nodes u.left number u.right size k hole (subst N hole none.1) back (small hole) low high fits
      | inr full ↦ none_in_block rank nodes u.left number u.right size k full low high fits
    ] in
    let more = none_more rank (blocks_of rank nodes used) size (nodes number).start (nodes number).units a.holds here in
    let place = segment_place nodes number (b.mid + (nodes number).units) no_node u.right b.back in
    let same : used ≡ (u.left ++ number ∷ []) ++ u.right = simp append_assoc in
    let P : List ℕ → Type 0 = λ xs. NoneBelow rank (blocks_of rank nodes xs) size ((nodes number).start + (nodes number).units) in
    let Q : ℕ → Type 0 = NoneBelow rank (blocks_of rank nodes ((u.left ++ number ∷ []) ++ u.right)) size in
    let e : (nodes number).start + (nodes number).units ≡ place_of nodes u.right = omega (arith, start, place) in
    reached_next bytes (NoRoom rank bytes size) number a (subst Q e (subst P same more))

pub first_hole : (rank : ℕ) (bytes : List ℕ) (size number : ℕ) → AtNode bytes (NoRoom rank bytes size) number
    → (node_at bytes number).kind ≡ 1 → rounded size ≤ 16 * (node_at bytes number).units → IsFirstHole rank bytes size number
first_hole rank bytes size number a hole room = record {
  used = a.used;
  hole = hole;
  room = room;
  least = λ blocks spelled.
      let e = spelled_is rank bytes blocks (a.used.left ++ number ∷ a.used.right) a.used.unused spelled a.used.sound in
      let P : List Block → Type 0 = λ bs. NoneBelow rank bs size (node_at bytes number).start in
      subst P (sym e) a.holds;
}

pub no_room_end : (rank : ℕ) (bytes : List ℕ) (size : ℕ) → AtEnd bytes (NoRoom rank bytes size) → FitsNowhere rank bytes size
no_room_end rank bytes size a blocks spelled place fits =
    let nodes = node_at bytes in
    let e = spelled_is rank bytes blocks a.left a.unused spelled a.sound in
    let whole = append-nil a.left in
    let P : List ℕ → Type 0 = λ xs. NoneBelow rank (blocks_of rank nodes xs) size heap_units in
    let Q : List Block → Type 0 = λ bs. NoneBelow rank bs size heap_units in
    let some : 16 ≤ rounded size = omega arith in
    let to = fits.to in
    none_before rank blocks size heap_units place (subst Q (sym e) (subst P whole a.holds)) (omega (arith, to, some)) fits

-- No block before the nodes on the right has the address.
abbrev pub NoneLive : ℕ → List ℕ → ℕ → List ℕ → List ℕ → Type 0
NoneLive rank bytes address left right = IsLive address (blocks_of rank (node_at bytes) left) → ⊥

pub none_live_start : (rank : ℕ) (bytes : List ℕ) (address : ℕ) → IsAnyHeap bytes → Reached bytes (NoneLive rank bytes address) (first_node bytes)
none_live_start rank bytes address any = reached_start bytes (NoneLive rank bytes address) (λ used live. live) any

pub none_live_next : (rank : ℕ) (bytes : List ℕ) (address number : ℕ) → AtNode bytes (NoneLive rank bytes address) number
    → address_of rank (node_at bytes number).start < address
    → Reached bytes (NoneLive rank bytes address) (node_at bytes number).next
none_live_next rank bytes address number a before =
    let nodes = node_at bytes in
    let u = a.used in
    let l = to_linked bytes (u.left ++ number ∷ u.right) u.unused u.sound in
    let b = beside nodes u.left number u.right l.heap.chain in
    let here : IsLive address (blocks_of rank nodes (number ∷ [])) → ⊥ =
    λ live. elim b.link.kind [
      | inl hole ↦ subst (IsLive address) (blocks_hole rank nodes number [] hole) live
      | inr full ↦ elim (subst (IsLive address) (blocks_block rank nodes number [] full) live) [
        | inl same ↦ omega (arith, same, before)
        | inr none ↦ none
      ]
    ] in
    reached_next bytes (NoneLive rank bytes address) number a
    (λ live. elim (live-append address (blocks_of rank nodes u.left) (blocks_of rank nodes (number ∷ [])) (subst (IsLive address) (blocks-append rank nodes u.left (number ∷ [])) live)) [
      | inl left ↦ a.holds left
      | inr right ↦ here right
    ])

pub none_live_end : (rank : ℕ) (bytes : List ℕ) (address : ℕ) → AtEnd bytes (NoneLive rank bytes address) → IsDead rank bytes address
none_live_end rank bytes address a blocks spelled live =
    a.holds (subst (IsLive address) (spelled_is rank bytes blocks a.left a.unused spelled a.sound) live)

-- behind the address no block has it, and at it no hole
pub none_live_here : (rank : ℕ) (bytes : List ℕ) (address number : ℕ) → AtNode bytes (NoneLive rank bytes address) number
    → (address < address_of rank (node_at bytes number).start)
    ⊎ ((address ≡ address_of rank (node_at bytes number).start) × ((node_at bytes number).kind ≡ 2 → ⊥))
    → IsDead rank bytes address
none_live_here rank bytes address number a behind blocks spelled live =
    let nodes = node_at bytes in
    let u = a.used in
    let used = u.left ++ number ∷ u.right in
    let l = to_linked bytes used u.unused u.sound in
    let b = beside nodes u.left number u.right l.heap.chain in
    let start = b.link.start in
    let some = b.link.some in
    let e = spelled_is rank bytes blocks used u.unused spelled u.sound in
    let parts = blocks-append rank nodes u.left (number ∷ u.right) in
    let right : IsLive address (blocks_of rank nodes (number ∷ u.right)) → ⊥ =
    elim behind [
      | inl low ↦ none_live rank nodes _ b.mid no_node heap_units (number ∷ u.right) address (omega (arith, low, start)) (b.link, b.back)
      | inr here ↦ λ right_live. elim b.link.kind [
        | inl hole ↦ none_live rank nodes number (b.mid + (nodes number).units) no_node heap_units u.right address (omega (arith, here.0, start, some)) b.back
            (subst (IsLive address) (blocks_hole rank nodes number u.right hole) right_live)
        | inr full ↦ here.1 full
      ]
    ] in
    elim (live-append address (blocks_of rank nodes u.left) (blocks_of rank nodes (number ∷ u.right)) (subst (IsLive address) (e ∙ parts) live)) [
      | inl left ↦ a.holds left
      | inr later ↦ right later
    ]

pub block_here : (rank : ℕ) (bytes : List ℕ) (address number : ℕ) → AtNode bytes (NoneLive rank bytes address) number
    → address ≡ address_of rank (node_at bytes number).start → (node_at bytes number).kind ≡ 2 → IsBlockAt rank bytes address number
block_here rank bytes address number a here full = record { used = a.used; block = full; here = here }

pub way_on : (bytes : List ℕ) (number next : ℕ) → next ≡ (node_at bytes number).next → IsUsed bytes number → way_left bytes next < way_left bytes number
way_on bytes number next e u =
    let P : ℕ → Type 0 = λ n. way_left bytes n < way_left bytes number in
    subst P (sym e) (way_shorter bytes number u)

-- the test of a hole that is too small
pub too_small : (kind units needed size have : ℕ) (b : Bool) → ((kind ≡ 1) × (needed ≤ units) → b ≡ true) → b ≡ false → 16 * needed ≡ size → have ≡ units
    → kind ≡ 1 → 16 * have < size
too_small kind units needed size have b test no_room is e hole =
    elim (cases_lt units needed) [
      | inl small ↦ omega (arith, small, is, e)
      | inr large ↦ absurd (both_ways b no_room (test (hole, large)))
    ]

-- the address that the code computes
pub here_is : (rank owner base start entry : ℕ) → base ≡ base_of owner → owner ≡ rank → entry ≡ start
    → base + 524288 + 16 * entry ≡ address_of rank start
here_is rank owner base start entry is same e = omega (arith, is, same, e)
