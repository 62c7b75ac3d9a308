-- To refine: while the most loaded processor is over the limit, its heaviest rank that may go goes to the least loaded
-- processor.
use Rattle.std.specs.Prelude.{ℕ, zero, suc, ◌≡◌, ◌+◌, ◌*◌, ◌-◌, ◌/◌, ◌<◌, ◌≤◌, ◌⊎◌, false, List, length, slice_set, All, Contains}
use Rattle.am_base.specs.declared.numbers.ProcId.{ProcId}
use Rattle.balancers.specs.declared.loads.Load.{Load}
use Rattle.balancers.specs.Loads.{place_in, load_on, places, goes_before, IsLeast, IsMost, total, greatest_load}

-- the limit: 21 twentieths of a processor's share of the total, rounded up
abbrev pub limit_of : List Load → List ProcId → ℕ
limit_of loads live = (21 * total loads + (20 * length live - 1)) / (20 * length live)

-- Rank l may go from one processor to another: it is there, has positive load, and keeps the other at or under the limit.
pub record MayGo (loads : List Load) (limit : ℕ) (plan : List ProcId) (from to : ProcId) (l : Load) : Type 0 where
  pub is_there : place_in plan l.rank ≡ from
  pub positive : 0 < l.ticks
  pub fits : load_on plan loads to + l.ticks ≤ limit

-- One move by the rule leads from a plan to the next.
pub record IsMove (loads : List Load) (live : List ProcId) (limit : ℕ) (plan next : List ProcId) : Type 0 where
  pub from : ProcId
  pub to : ProcId
  pub mover : Load
  pub most : IsMost (load_on plan loads) live from
  pub over : limit < load_on plan loads from
  pub least : IsLeast (load_on plan loads) live to
  pub one_of_run : Contains loads mover
  pub may_go : MayGo loads limit plan from to mover
  pub heaviest : All (λ m. MayGo loads limit plan from to m → goes_before m mover ≡ false) loads
  pub moved : next ≡ slice_set plan mover.rank.0 to

-- n moves, one after another, lead from a plan to another
abbrev pub Moves : List Load → List ProcId → ℕ → ℕ → List ProcId → List ProcId → Type 0
Moves loads live limit zero start plan = plan ≡ start
Moves loads live limit (suc n) start plan =
    (before : List ProcId) × (Moves loads live limit n start before × IsMove loads live limit before plan)

-- the rule has no move
abbrev pub HasNoMove : List Load → List ProcId → ℕ → List ProcId → Type 0
HasNoMove loads live limit plan = (next : List ProcId) → IsMove loads live limit plan next → ⊥

-- A plan by this rule: moves lead to it from the places that the ranks have, and there is no further one.
pub record IsRefined (loads : List Load) (live plan : List ProcId) : Type 0 where
  pub moves : ℕ
  pub made : Moves loads live (limit_of loads live) moves (places loads) plan
  pub ended : HasNoMove loads live (limit_of loads live) plan

-- At the end no processor is over the limit, or no rank of the most loaded one may go to the least loaded one.
abbrev pub IsAtEnd : List Load → List ProcId → List ProcId → Type 0
IsAtEnd loads live plan =
    (greatest_load plan loads live ≤ limit_of loads live)
    ⊎ ((from to : ProcId) → IsMost (load_on plan loads) live from → IsLeast (load_on plan loads) live to
    → All (λ l. MayGo loads (limit_of loads live) plan from to l → ⊥) loads)
