-- How the ranks are spread turn by turn, for the private functions of the crate.
use Rattle.std.specs.Prelude.{ℕ, ◌≡◌, ◌+◌, ◌<◌, ◌==◌, if◌then◌else◌, false, List, map, take, sum_by, slice_index_or, All, AllPairs, IsPermutation}
use Rattle.std.specs.BinaryHeap.{IsHeap}
use Rattle.std.specs.Ordering.{nat_cmp, ordering_then}
use Rattle.std.specs.declared.cmp.Ordering.{Ordering}
use Rattle.std.specs.declared.cmp.Reverse.{Reverse}
use Rattle.am_base.specs.declared.numbers.ProcId.{ProcId}
use Rattle.balancers.specs.declared.loads.Load.{Load}
use Rattle.balancers.specs.Loads.{place_in, brought, goes_before, IsLeast}

-- the ranks stand heaviest first, ties by rank
abbrev pub AreHeaviestFirst : List Load → Type 0
AreHeaviestFirst order = AllPairs (λ a b. goes_before b a ≡ false) order

-- no rank stands twice
abbrev pub AreDistinct : List Load → Type 0
AreDistinct order = AllPairs (λ a b. a.rank.0 ≡ b.rank.0 → ⊥) order

-- the live processors ascend
abbrev pub Ascend : List ProcId → Type 0
Ascend live = AllPairs (λ p q. p.0 < q.0) live

-- what the first k ranks of an order bring to a processor
abbrev pub so_far : List ProcId → List Load → ℕ → ProcId → ℕ
so_far plan order k p = sum_by (brought plan p) (take k order)

-- each of the first n ranks of an order has the least loaded processor of its turn
pub record AreSpread (live : List ProcId) (order : List Load) (n : ℕ) (plan : List ProcId) : Type 0 where
  pub turns : (k : ℕ) (d : Load) → k < n → IsLeast (so_far plan order k) live (place_in plan (slice_index_or order k d).rank)

-- the order in which a heap holds processors with their ticks
abbrev pub standing_cmp : Reverse (ℕ × ProcId) → Reverse (ℕ × ProcId) → Ordering
standing_cmp x y = ordering_then (nat_cmp y.0.0 x.0.0) (nat_cmp y.0.1.0 x.0.1.0)

-- loads, with more ticks at a processor
abbrev pub given : (ProcId → ℕ) → ProcId → ℕ → ProcId → ℕ
given load p ticks q = load q + (if p.0 == q.0 then ticks else 0)

-- a heap holds each live processor once, with its load
pub record Holds (load : ProcId → ℕ) (live : List ProcId) (standing : List (Reverse (ℕ × ProcId))) : Type 0 where
  pub in_order : IsHeap standing_cmp standing
  pub told : All (λ x. x.0.0 ≡ load x.0.1) standing
  pub each_once : IsPermutation live (map (λ x. x.0.1) standing)
