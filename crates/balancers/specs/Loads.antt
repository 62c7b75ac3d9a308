-- The loads of ranks, and what a plan brings to a processor.
use Rattle.std.specs.Prelude.{ℕ, ◌≡◌, ◌<◌, ◌≤◌, ◌==◌, if◌then◌else◌, max, List, [], ◌∷◌, length, map, sum_by, slice_index_or, All, AllPairs, Contains, nat_lt, Bool, ◌&&◌, ◌||◌}
use Rattle.am_base.specs.declared.numbers.ProcId.{ProcId}
use Rattle.am_base.specs.declared.numbers.RankId.{RankId}
use Rattle.balancers.specs.declared.loads.Load.{Load}

-- the loads are those of the ranks from 0 on, each rank's once and in order
abbrev pub AreByRank : List Load → Type 0
AreByRank loads = (k : ℕ) (d : Load) → k < length loads → (slice_index_or loads k d).rank.0 ≡ k

-- What a balancer is given: the loads of the ranks from 0 on, each rank's once and in order, and the live processors in
-- ascending order, of which there is one at least. Each rank's place is one of them.
pub record AreLoads (loads : List Load) (live : List ProcId) : Type 0 where
  pub by_rank : AreByRank loads
  pub ascending : AllPairs (λ p q. p.0 < q.0) live
  pub some_live : 0 < length live
  pub at_live : All (λ l. Contains live l.place) loads

-- the ticks of all ranks together
abbrev pub total : List Load → ℕ
total loads = sum_by (λ l. l.ticks) loads

-- the greatest of some numbers, and 0 where there is none
abbrev pub greatest : List ℕ → ℕ
greatest [] = 0
greatest (x ∷ xs) = max x (greatest xs)

-- the load of the heaviest rank
abbrev pub heaviest : List Load → ℕ
heaviest loads = greatest (map (λ l. l.ticks) loads)

-- the places that the ranks have
abbrev pub places : List Load → List ProcId
places loads = map (λ l. l.place) loads

-- the place that a plan, a list of places by rank, has for a rank
abbrev pub place_in : List ProcId → RankId → ProcId
place_in plan r = let none : ProcId = record { 0 = 0 } in slice_index_or plan r.0 none

-- what one rank brings to processor p by a plan: its ticks where p is its place
abbrev pub brought : List ProcId → ProcId → Load → ℕ
brought plan p l = if (place_in plan l.rank).0 == p.0 then l.ticks else 0

-- the load of processor p by a plan: the ticks of the ranks whose place it is
abbrev pub load_on : List ProcId → List Load → ProcId → ℕ
load_on plan loads p = sum_by (brought plan p) loads

-- the load of the most loaded processor
abbrev pub greatest_load : List ProcId → List Load → List ProcId → ℕ
greatest_load plan loads live = greatest (map (load_on plan loads) live)

-- whether rank a stands before rank b, heaviest first, ties by rank
abbrev pub goes_before : Load → Load → Bool
goes_before a b = nat_lt b.ticks a.ticks || ((b.ticks == a.ticks) && nat_lt a.rank.0 b.rank.0)

-- p is the live processor with the least load, ties by number
pub record IsLeast (load : ProcId → ℕ) (live : List ProcId) (p : ProcId) : Type 0 where
  pub is_live : Contains live p
  pub least : (q : ProcId) → Contains live q → load p ≤ load q
  pub first : (q : ProcId) → Contains live q → load q ≡ load p → p.0 ≤ q.0

-- p is the live processor with the greatest load, ties by number
pub record IsMost (load : ProcId → ℕ) (live : List ProcId) (p : ProcId) : Type 0 where
  pub is_live : Contains live p
  pub most : (q : ProcId) → Contains live q → load q ≤ load p
  pub first : (q : ProcId) → Contains live q → load q ≡ load p → p.0 ≤ q.0
