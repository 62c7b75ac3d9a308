-- To spread greedily: the ranks go heaviest first, ties by rank, each to the live processor with the least load so far,
-- ties by number.
use Rattle.std.specs.Prelude.{ℕ, ◌≡◌, ◌+◌, ◌*◌, ◌-◌, ◌≤◌, ◌==◌, ◌&&◌, if◌then◌else◌, List, length, sum_by, All}
use Rattle.am_base.specs.declared.numbers.ProcId.{ProcId}
use Rattle.balancers.specs.declared.loads.Load.{Load}
use Rattle.balancers.specs.Loads.{place_in, goes_before, IsLeast, total, heaviest, greatest_load}

-- the load of processor p when l's turn comes: the ticks of the ranks that go before l and whose place is p
abbrev pub load_before : List ProcId → List Load → Load → ProcId → ℕ
load_before plan loads l p =
    sum_by (λ m. if goes_before m l && ((place_in plan m.rank).0 == p.0) then m.ticks else 0) loads

-- A plan by this rule: each rank's place is the one with the least load when its turn comes.
pub record IsSpreadGreedily (loads : List Load) (live plan : List ProcId) : Type 0 where
  pub long : length plan ≡ length loads
  pub by_turns : All (λ l. IsLeast (load_before plan loads l) live (place_in plan l.rank)) loads

-- No processor has more than its share of the total and the part of the heaviest rank that may stand out.
abbrev pub IsNearShare : List Load → List ProcId → List ProcId → Type 0
IsNearShare loads live plan =
    length live * greatest_load plan loads live ≤ total loads + (length live - 1) * heaviest loads
