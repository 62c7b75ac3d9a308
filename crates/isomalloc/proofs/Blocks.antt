-- The live blocks of chains of nodes.
use Rattle.std.proofs.Common.{◌≡◌, ℕ, ◌+◌, ◌*◌, ◌<◌, ◌≤◌, ◌⊎◌, inl, inr, List, [], ◌∷◌, ◌++◌, ◌∙◌, refl, sym, ap, subst, arith, append_assoc}
use Rattle.std.specs.List.{All}
use Rattle.std.proofs.lemmas.Bool.{cases_lt, lt-ltb, le-ltb, ne_eqb, eq-eqb}
use Rattle.std.proofs.lemmas.List.Elements.{All-head, All-tail, All-cons, All-nil, All-append}
use Rattle.rank_range.specs.Layout.{base_of, heap_start}
use Rattle.rank_range.specs.Heap.{Fits, IsApart, rounded}
use Rattle.rank_range.specs.Nodes.{Node, no_node, heap_units}
use Rattle.rank_range.specs.declared.heap.Block.{Block}
use Rattle.rank_range.proofs.HeapLemmas.{NoneBelow}
use Rattle.rank_range.specs.Heap.{with_block, without, IsLive}
use Rattle.isomalloc.proofs.Shape.{Segment, NoTwo, piece, blocks_of, blocks-append}

pub segment_order : (nodes : ℕ → Node) (before from after to : ℕ) (xs : List ℕ) → Segment nodes before from after to xs → from ≤ to
segment_order nodes before from after to [] chain = omega (arith, chain)
segment_order nodes before from after to (x ∷ xs) chain =
    let rest = segment_order nodes x (from + (nodes x).units) after to xs chain.1 in
    omega (arith, rest)

pub blocks_hole : (rank : ℕ) (nodes : ℕ → Node) (x : ℕ) (xs : List ℕ) → (nodes x).kind ≡ 1 → blocks_of rank nodes (x ∷ xs) ≡ blocks_of rank nodes xs
blocks_hole rank nodes x xs e = rw e refl

pub blocks_block : (rank : ℕ) (nodes : ℕ → Node) (x : ℕ) (xs : List ℕ) → (nodes x).kind ≡ 2
    → blocks_of rank nodes (x ∷ xs) ≡ piece rank (nodes x) ∷ blocks_of rank nodes xs
blocks_block rank nodes x xs e = rw e refl

with_later : (block other : Block) (others : List Block) → other.address < block.address
    → with_block block (other ∷ others) ≡ other ∷ with_block block others
with_later block other others before = rw (lt-ltb other.address block.address before) refl

with_first : (block other : Block) (others : List Block) → block.address ≤ other.address
    → with_block block (other ∷ others) ≡ block ∷ other ∷ others
with_first block other others before = rw (le-ltb other.address block.address before) refl

without_other : (address : ℕ) (block : Block) (blocks : List Block) → (block.address ≡ address → ⊥)
    → without address (block ∷ blocks) ≡ block ∷ without address blocks
without_other address block blocks other = rw (ne_eqb block.address address other) refl

without_here : (address : ℕ) (block : Block) (blocks : List Block) → block.address ≡ address
    → without address (block ∷ blocks) ≡ without address blocks
without_here address block blocks here = rw (eq-eqb block.address address here) refl

-- the address of the unit s
abbrev pub address_of : ℕ → ℕ → ℕ
address_of rank s = base_of rank + heap_start + 16 * s

with_left : (rank : ℕ) (nodes : ℕ → Node) (before from after to : ℕ) (xs : List ℕ) (s : ℕ) (block : Block) (ys : List Block)
    → block.address ≡ address_of rank s → to ≤ s → Segment nodes before from after to xs
    → with_block block (blocks_of rank nodes xs ++ ys) ≡ blocks_of rank nodes xs ++ with_block block ys
with_left rank nodes before from after to [] s block ys here behind chain = refl
with_left rank nodes before from after to (x ∷ xs) s block ys here behind chain =
    let rest = with_left rank nodes x (from + (nodes x).units) after to xs s block ys here behind chain.1 in
    let order = segment_order nodes x (from + (nodes x).units) after to xs chain.1 in
    let link = chain.0 in
    let lower : (piece rank (nodes x)).address < block.address = omega (arith, here, behind, order, link.start, link.some) in
    let P : List Block → Type 0 = λ bs. with_block block (bs ++ ys) ≡ bs ++ with_block block ys in
    elim link.kind [
      | inl hole ↦ subst P (sym (blocks_hole rank nodes x xs hole)) rest
      | inr full ↦ subst P (sym (blocks_block rank nodes x xs full))
          (with_later block (piece rank (nodes x)) (blocks_of rank nodes xs ++ ys) lower ∙ ap (λ (bs : List Block). piece rank (nodes x) ∷ bs) rest)
    ]

with_right : (rank : ℕ) (nodes : ℕ → Node) (before from after to : ℕ) (xs : List ℕ) (s : ℕ) (block : Block)
    → block.address ≡ address_of rank s → s ≤ from → Segment nodes before from after to xs
    → with_block block (blocks_of rank nodes xs) ≡ block ∷ blocks_of rank nodes xs
with_right rank nodes before from after to [] s block here behind chain = refl
with_right rank nodes before from after to (x ∷ xs) s block here behind chain =
    let rest = with_right rank nodes x (from + (nodes x).units) after to xs s block here (omega (arith, behind)) chain.1 in
    let link = chain.0 in
    let lower : block.address ≤ (piece rank (nodes x)).address = omega (arith, here, behind, link.start) in
    let P : List Block → Type 0 = λ bs. with_block block bs ≡ block ∷ bs in
    elim link.kind [
      | inl hole ↦ subst P (sym (blocks_hole rank nodes x xs hole)) rest
      | inr full ↦ subst P (sym (blocks_block rank nodes x xs full)) (with_first block (piece rank (nodes x)) (blocks_of rank nodes xs) lower)
    ]

-- a block between the blocks of two chains
pub with_between : (rank : ℕ) (nodes : ℕ → Node) (b f a t : ℕ) (xs : List ℕ) (b' f' a' t' : ℕ) (ys : List ℕ) (s : ℕ) (block : Block)
    → block.address ≡ address_of rank s → t ≤ s → s ≤ f' → Segment nodes b f a t xs → Segment nodes b' f' a' t' ys
    → with_block block (blocks_of rank nodes xs ++ blocks_of rank nodes ys) ≡ blocks_of rank nodes xs ++ block ∷ blocks_of rank nodes ys
with_between rank nodes b f a t xs b' f' a' t' ys s block here low high left right =
    with_left rank nodes b f a t xs s block (blocks_of rank nodes ys) here low left
    ∙ ap (λ (bs : List Block). blocks_of rank nodes xs ++ bs) (with_right rank nodes b' f' a' t' ys s block here high right)

without_left : (rank : ℕ) (nodes : ℕ → Node) (before from after to : ℕ) (xs : List ℕ) (s : ℕ) (ys : List Block)
    → to ≤ s → Segment nodes before from after to xs
    → without (address_of rank s) (blocks_of rank nodes xs ++ ys) ≡ blocks_of rank nodes xs ++ without (address_of rank s) ys
without_left rank nodes before from after to [] s ys behind chain = refl
without_left rank nodes before from after to (x ∷ xs) s ys behind chain =
    let rest = without_left rank nodes x (from + (nodes x).units) after to xs s ys behind chain.1 in
    let order = segment_order nodes x (from + (nodes x).units) after to xs chain.1 in
    let link = chain.0 in
    let other : (piece rank (nodes x)).address ≡ address_of rank s → ⊥ = λ e. omega (arith, e, behind, order, link.start, link.some) in
    let P : List Block → Type 0 = λ bs. without (address_of rank s) (bs ++ ys) ≡ bs ++ without (address_of rank s) ys in
    elim link.kind [
      | inl hole ↦ subst P (sym (blocks_hole rank nodes x xs hole)) rest
      | inr full ↦ subst P (sym (blocks_block rank nodes x xs full))
          (without_other (address_of rank s) (piece rank (nodes x)) (blocks_of rank nodes xs ++ ys) other
          ∙ ap (λ (bs : List Block). piece rank (nodes x) ∷ bs) rest)
    ]

without_right : (rank : ℕ) (nodes : ℕ → Node) (before from after to : ℕ) (xs : List ℕ) (s : ℕ)
    → s < from → Segment nodes before from after to xs
    → without (address_of rank s) (blocks_of rank nodes xs) ≡ blocks_of rank nodes xs
without_right rank nodes before from after to [] s behind chain = refl
without_right rank nodes before from after to (x ∷ xs) s behind chain =
    let rest = without_right rank nodes x (from + (nodes x).units) after to xs s (omega (arith, behind)) chain.1 in
    let link = chain.0 in
    let other : (piece rank (nodes x)).address ≡ address_of rank s → ⊥ = λ e. omega (arith, e, behind, link.start) in
    let P : List Block → Type 0 = λ bs. without (address_of rank s) bs ≡ bs in
    elim link.kind [
      | inl hole ↦ subst P (sym (blocks_hole rank nodes x xs hole)) rest
      | inr full ↦ subst P (sym (blocks_block rank nodes x xs full))
          (without_other (address_of rank s) (piece rank (nodes x)) (blocks_of rank nodes xs) other ∙ ap (λ (bs : List Block). piece rank (nodes x) ∷ bs) rest)
    ]

-- the blocks of two chains without the one between them
pub without_between : (rank : ℕ) (nodes : ℕ → Node) (b f a t : ℕ) (xs : List ℕ) (b' f' a' t' : ℕ) (ys : List ℕ) (s : ℕ) (block : Block)
    → block.address ≡ address_of rank s → t ≤ s → s < f' → Segment nodes b f a t xs → Segment nodes b' f' a' t' ys
    → without (address_of rank s) (blocks_of rank nodes xs ++ block ∷ blocks_of rank nodes ys) ≡ blocks_of rank nodes xs ++ blocks_of rank nodes ys
without_between rank nodes b f a t xs b' f' a' t' ys s block here low high left right =
    without_left rank nodes b f a t xs s (block ∷ blocks_of rank nodes ys) low left
    ∙ ap (λ (bs : List Block). blocks_of rank nodes xs ++ bs)
    (without_here (address_of rank s) block (blocks_of rank nodes ys) here ∙ without_right rank nodes b' f' a' t' ys s high right)

pub live-append : (address : ℕ) (xs ys : List Block) → IsLive address (xs ++ ys) → IsLive address xs ⊎ IsLive address ys
live-append address [] ys live = inr live
live-append address (x ∷ xs) ys (inl here) = inl (inl here)
live-append address (x ∷ xs) ys (inr rest) = elim (live-append address xs ys rest) [ inl left ↦ inl (inr left) | inr right ↦ inr right ]

pub live_between : (address : ℕ) (xs : List Block) (block : Block) (ys : List Block) → block.address ≡ address → IsLive address (xs ++ block ∷ ys)
live_between address [] block ys here = inl here
live_between address (x ∷ xs) block ys here = inr (live_between address xs block ys here)

pub none_live : (rank : ℕ) (nodes : ℕ → Node) (before from after to : ℕ) (xs : List ℕ) (address : ℕ)
    → address < address_of rank from → Segment nodes before from after to xs → IsLive address (blocks_of rank nodes xs) → ⊥
none_live rank nodes before from after to [] address low chain live = live
none_live rank nodes before from after to (x ∷ xs) address low chain live =
    let link = chain.0 in
    let rest = none_live rank nodes x (from + (nodes x).units) after to xs address (omega (arith, low)) chain.1 in
    elim link.kind [
      | inl hole ↦ rest (subst (IsLive address) (blocks_hole rank nodes x xs hole) live)
      | inr full ↦ elim (subst (IsLive address) (blocks_block rank nodes x xs full) live) [
        | inl here ↦ omega (arith, here, low, link.start)
        | inr later ↦ rest later
      ]
    ]

All-right : (P : Block → Type 0) (xs ys : List Block) → All P (xs ++ ys) → All P ys
All-right P [] ys all = all
All-right P (x ∷ xs) ys all = All-right P xs ys (All-tail P x (xs ++ ys) all)

apart_left : (rank : ℕ) (nodes : ℕ → Node) (before from after to : ℕ) (xs : List ℕ) (s n : ℕ)
    → to ≤ s → Segment nodes before from after to xs → All (IsApart (address_of rank s) n) (blocks_of rank nodes xs)
apart_left rank nodes before from after to [] s n behind chain = All-nil (IsApart (address_of rank s) n)
apart_left rank nodes before from after to (x ∷ xs) s n behind chain =
    let rest = apart_left rank nodes x (from + (nodes x).units) after to xs s n behind chain.1 in
    let order = segment_order nodes x (from + (nodes x).units) after to xs chain.1 in
    let link = chain.0 in
    let P : List Block → Type 0 = λ bs. All (IsApart (address_of rank s) n) bs in
    elim link.kind [
      | inl hole ↦ subst P (sym (blocks_hole rank nodes x xs hole)) rest
      | inr full ↦ subst P (sym (blocks_block rank nodes x xs full))
          (All-cons (IsApart (address_of rank s) n) (piece rank (nodes x)) (blocks_of rank nodes xs)
          (inl (omega (arith, behind, order, link.start))) rest)
    ]

apart_right : (rank : ℕ) (nodes : ℕ → Node) (before from after to : ℕ) (xs : List ℕ) (s n : ℕ)
    → 16 * s + n ≤ 16 * from → Segment nodes before from after to xs → All (IsApart (address_of rank s) n) (blocks_of rank nodes xs)
apart_right rank nodes before from after to [] s n behind chain = All-nil (IsApart (address_of rank s) n)
apart_right rank nodes before from after to (x ∷ xs) s n behind chain =
    let rest = apart_right rank nodes x (from + (nodes x).units) after to xs s n (omega (arith, behind)) chain.1 in
    let link = chain.0 in
    let P : List Block → Type 0 = λ bs. All (IsApart (address_of rank s) n) bs in
    elim link.kind [
      | inl hole ↦ subst P (sym (blocks_hole rank nodes x xs hole)) rest
      | inr full ↦ subst P (sym (blocks_block rank nodes x xs full))
          (All-cons (IsApart (address_of rank s) n) (piece rank (nodes x)) (blocks_of rank nodes xs)
          (inr (omega (arith, behind, link.start))) rest)
    ]

pub apart_between : (rank : ℕ) (nodes : ℕ → Node) (b f a t : ℕ) (xs : List ℕ) (b' f' a' t' : ℕ) (ys : List ℕ) (s n : ℕ)
    → t ≤ s → 16 * s + n ≤ 16 * f' → Segment nodes b f a t xs → Segment nodes b' f' a' t' ys
    → All (IsApart (address_of rank s) n) (blocks_of rank nodes xs ++ blocks_of rank nodes ys)
apart_between rank nodes b f a t xs b' f' a' t' ys s n low high left right =
    All-append (IsApart (address_of rank s) n) (blocks_of rank nodes xs) (blocks_of rank nodes ys)
    (apart_left rank nodes b f a t xs s n low left) (apart_right rank nodes b' f' a' t' ys s n high right)

-- what fits is apart from the first block of a chain behind others
apart_first : (rank : ℕ) (nodes : ℕ → Node) (left : List ℕ) (x : ℕ) (xs : List ℕ) (a n : ℕ) → (nodes x).kind ≡ 2
    → All (IsApart a n) (blocks_of rank nodes (left ++ x ∷ xs)) → IsApart a n (piece rank (nodes x))
apart_first rank nodes left x xs a n full all =
    let P : List Block → Type 0 = λ bs. All (IsApart a n) bs in
    let parts = subst P (blocks-append rank nodes left (x ∷ xs)) all in
    let rest = All-right (IsApart a n) (blocks_of rank nodes left) (blocks_of rank nodes (x ∷ xs)) parts in
    All-head (IsApart a n) (piece rank (nodes x)) (blocks_of rank nodes xs) (subst P (blocks_block rank nodes x xs full) rest)

pub none_more : (rank : ℕ) (blocks : List Block) (size s u : ℕ) → NoneBelow rank blocks size s
    → ((k : ℕ) → s ≤ k → k < s + u → Fits rank blocks size (address_of rank k) → ⊥) → NoneBelow rank blocks size (s + u)
none_more rank blocks size s u before here k below fits =
    elim (cases_lt k s) [ inl low ↦ before k low fits | inr high ↦ here k high below fits ]

-- nothing fits where a block is
pub none_in_block : (rank : ℕ) (nodes : ℕ → Node) (left : List ℕ) (x : ℕ) (xs : List ℕ) (size k : ℕ) → (nodes x).kind ≡ 2
    → (nodes x).start ≤ k → k < (nodes x).start + (nodes x).units
    → Fits rank (blocks_of rank nodes (left ++ x ∷ xs)) size (address_of rank k) → ⊥
none_in_block rank nodes left x xs size k full low high fits =
    let some : 16 ≤ rounded size = omega arith in
    elim (apart_first rank nodes left x xs (address_of rank k) (rounded size) full fits.free) [
      | inl before ↦ omega (arith, before, high)
      | inr behind ↦ omega (arith, behind, low, some)
    ]

-- nothing fits where a hole is that is too small
pub none_in_hole : (rank : ℕ) (nodes : ℕ → Node) (left : List ℕ) (x : ℕ) (xs : List ℕ) (size k : ℕ) → (nodes x).kind ≡ 1
    → NoTwo nodes 1 xs → Segment nodes x ((nodes x).start + (nodes x).units) no_node heap_units xs
    → 16 * (nodes x).units < rounded size → (nodes x).start ≤ k → k < (nodes x).start + (nodes x).units
    → Fits rank (blocks_of rank nodes (left ++ x ∷ xs)) size (address_of rank k) → ⊥
none_in_hole rank nodes left x [] size k hole none chain small low high fits =
    let to = fits.to in omega (arith, to, chain, small, low, high)
none_in_hole rank nodes left x (y ∷ ys) size k hole none chain small low high fits =
    let full = none.0 refl in
    let link = chain.0 in
    let same : left ++ x ∷ y ∷ ys ≡ (left ++ x ∷ []) ++ y ∷ ys = simp append_assoc in
    let P : List ℕ → Type 0 = λ ns. All (IsApart (address_of rank k) (rounded size)) (blocks_of rank nodes ns) in
    elim (apart_first rank nodes (left ++ x ∷ []) y ys (address_of rank k) (rounded size) full (subst P same fits.free)) [
      | inl before ↦ omega (arith, before, high, link.start, link.some)
      | inr behind ↦ omega (arith, behind, low, small, link.start)
    ]
