-- While fewer than 4,000 blocks live, some node is unused: the used ones are no more than the blocks and the holes beside them.
use Rattle.std.proofs.Common.{◌≡◌, ℕ, zero, suc, ◌+◌, ◌*◌, ◌<◌, ◌≤◌, inl, inr, List, [], ◌∷◌, ◌++◌, length, refl, ap, arith, append-nil}
use Rattle.std.proofs.lemmas.Bool.{cases_eq}
use Rattle.rank_range.specs.Nodes.{Node, node_count, no_node, heap_units, times_in}
use Rattle.rank_range.specs.Heap.{most_blocks}
use Rattle.isomalloc.specs.declared.nodes.Header.{Header}
use Rattle.isomalloc.proofs.Shape.{Segment, NoTwo, count_of, single, single_here, single_other}
use Rattle.isomalloc.proofs.Sound.{Linked}

-- how often the numbers below n stand in the list
tally : ℕ → List ℕ → ℕ
tally zero xs = 0
tally (suc n) xs = times_in n xs + tally n xs

-- how often the number is below n
below_count : ℕ → ℕ → ℕ
below_count zero x = 0
below_count (suc n) x = single n x + below_count n x

below_none : (n x : ℕ) → n ≤ x → below_count n x ≡ 0
unfolding below_count
below_none zero x low = refl
below_none (suc n) x low =
    let rest = below_none n x (omega (arith, low)) in
    let here = single_other n x (λ e. omega (arith, e, low)) in
    omega (arith, rest, here)

below_once : (n x : ℕ) → below_count n x ≤ 1
unfolding below_count
below_once zero x = omega arith
below_once (suc n) x =
    let rest = below_once n x in
    elim (cases_eq n x) [
      | inl same ↦ let none = below_none n x (omega (arith, same)) in let here = single_here n x same in omega (arith, none, here)
      | inr other ↦ let here = single_other n x other in omega (arith, rest, here)
    ]

tally_nil : (n : ℕ) → tally n [] ≡ 0
unfolding tally
tally_nil zero = refl
tally_nil (suc n) = let rest = tally_nil n in omega (arith, rest)

tally_cons : (n x : ℕ) (xs : List ℕ) → tally n (x ∷ xs) ≡ below_count n x + tally n xs
unfolding tally below_count
tally_cons zero x xs = omega arith
tally_cons (suc n) x xs = let rest = tally_cons n x xs in omega (arith, rest)

tally_most : (n : ℕ) (xs : List ℕ) → tally n xs ≤ length xs
tally_most n [] = let none = tally_nil n in omega (arith, none)
tally_most n (x ∷ xs) =
    let rest = tally_most n xs in
    let all = tally_cons n x xs in
    let once = below_once n x in
    omega (arith, rest, all, once)

tally_all : (n : ℕ) (xs : List ℕ) → ((k : ℕ) → k < n → times_in k xs ≡ 1) → tally n xs ≡ n
unfolding tally
tally_all zero xs each = refl
tally_all (suc n) xs each =
    let rest = tally_all n xs (λ k below. each k (omega (arith, below))) in
    let here = each n (omega arith) in
    omega (arith, rest, here)

-- a list in which each number below n stands has n numbers at least
pub at_least : (n : ℕ) (xs : List ℕ) → ((k : ℕ) → k < n → times_in k xs ≡ 1) → n ≤ length xs
at_least n xs each = let all = tally_all n xs each in let most = tally_most n xs in omega (arith, all, most)

-- Between two holes is a block.
pub record Few (nodes : ℕ → Node) (before : ℕ) (xs : List ℕ) : Type 0 where
  pub all : length xs ≤ 2 * count_of nodes 2 xs + 1
  pub behind_hole : before ≡ 1 → length xs ≤ 2 * count_of nodes 2 xs

pub few_nodes : (nodes : ℕ → Node) (before b f a t : ℕ) (xs : List ℕ) → NoTwo nodes before xs → Segment nodes b f a t xs → Few nodes before xs
few_nodes nodes before b f a t [] none chain = record { all = omega arith; behind_hole = λ hole. omega arith }
few_nodes nodes before b f a t (x ∷ xs) none chain =
    let rest = few_nodes nodes (nodes x).kind x (f + (nodes x).units) a t xs none.1 chain.1 in
    elim chain.0.kind [
      | inl hole ↦ let short = rest.behind_hole hole in
          let gone : single (nodes x).kind 2 ≡ 0 = ap (λ (k : ℕ). single k 2) hole in
          record {
            all = omega (arith, short, gone);
            behind_hole = λ hole_before. let full = none.0 hole_before in absurd (omega (arith, full, hole));
          }
      | inr full ↦ let all = rest.all in
          let one : single (nodes x).kind 2 ≡ 1 = ap (λ (k : ℕ). single k 2) full in
          record { all = omega (arith, all, one); behind_hole = λ hole_before. omega (arith, all, one) }
    ]

-- Some node is unused.
pub record HasSpare (unused : List ℕ) : Type 0 where
  pub node : ℕ
  pub rest : List ℕ
  pub is : unused ≡ node ∷ rest

pub has_spare : (nodes : ℕ → Node) (header : Header) (used unused : List ℕ) → Linked nodes header used unused → NoTwo nodes 2 used
    → header.blocks < most_blocks → HasSpare unused
has_spare nodes header used [] l none few =
    let enough = at_least node_count (used ++ []) l.heap.once in
    let same = ap (λ (xs : List ℕ). length xs) (append-nil used) in
    let most = (few_nodes nodes 2 no_node 0 no_node heap_units used none l.heap.chain).all in
    absurd (omega (arith, enough, same, most, few, l.blocks))
has_spare nodes header used (u ∷ rest) l none few = record { node = u; rest = rest; is = refl }
