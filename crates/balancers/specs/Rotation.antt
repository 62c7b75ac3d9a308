-- To rotate: each rank goes to the next live processor in cyclic order.
use Rattle.std.specs.Prelude.{ℕ, ◌≡◌, ◌+◌, ◌%◌, ◌<◌, List, length, map, find, nat_lt, slice_index_or, unwrap_or}
use Rattle.am_base.specs.declared.numbers.ProcId.{ProcId}
use Rattle.balancers.specs.declared.loads.Load.{Load}
use Rattle.balancers.specs.Loads.{load_on, places}

-- The next live processor behind p: the first with a greater number, or the first of all where none is greater.
abbrev pub next_live : List ProcId → ProcId → ProcId
next_live live p = let none : ProcId = record { 0 = 0 } in unwrap_or (find (λ q. nat_lt p.0 q.0) live) (slice_index_or live 0 none)

-- the plan that sends each rank to the next live processor
abbrev pub rotated : List Load → List ProcId → List ProcId
rotated loads live = map (λ l. next_live live l.place) loads

-- the live processor at place i of the cycle of all of them
abbrev pub in_cycle : List ProcId → ℕ → ProcId
in_cycle live i = let none : ProcId = record { 0 = 0 } in slice_index_or live (i % length live) none

-- A rank at the live processor i goes to the live processor i + 1, and from the last to the first.
abbrev pub GoesOneOn : List Load → List ProcId → List ProcId → Type 0
GoesOneOn loads live plan =
    (k i : ℕ) (d : Load) (e : ProcId) → k < length loads → i < length live
    → (slice_index_or loads k d).place ≡ in_cycle live i → slice_index_or plan k e ≡ in_cycle live (i + 1)

-- All that a live processor had, and nothing else, is at the next one: the places are permuted, cycle by cycle.
abbrev pub LoadsGoOneOn : List Load → List ProcId → List ProcId → Type 0
LoadsGoOneOn loads live plan =
    (i : ℕ) → i < length live
    → load_on plan loads (in_cycle live (i + 1)) ≡ load_on (places loads) loads (in_cycle live i)
