-- One move of the refining rule in terms of places in lists, for the private functions of the crate.
use Rattle.std.specs.Prelude.{ℕ, ◌≡◌, ◌+◌, ◌<◌, ◌≤◌, List, length, map, slice_index, slice_index_or, slice_set}
use Rattle.am_base.specs.declared.numbers.ProcId.{ProcId}
use Rattle.balancers.specs.declared.loads.Load.{Load}
use Rattle.balancers.specs.declared.refining.Move.{Move}
use Rattle.balancers.specs.Loads.{load_on}
use Rattle.balancers.specs.Refining.{IsMove}

-- the ticks of the rank at place k, and the number of its place
abbrev pub ticks_at : List Load → ℕ → ℕ
ticks_at loads k =
    let none : Load = record { rank = record { 0 = 0 }; place = record { 0 = 0 }; ticks = 0 } in
    (slice_index_or loads k none).ticks

abbrev pub proc_at : List ProcId → ℕ → ProcId
proc_at plan k = let none : ProcId = record { 0 = 0 } in slice_index_or plan k none

-- b is the first place of the greatest of the first n numbers
pub record IsFirstGreatest (sums : List ℕ) (n b : ℕ) : Type 0 where
  pub inside : b < length sums
  pub greatest : (k : ℕ) → k < n → slice_index sums k ≤ slice_index sums b
  pub first : (k : ℕ) → k < b → slice_index sums k < slice_index sums b

-- b is the first place of the least of the first n numbers
pub record IsFirstLeast (sums : List ℕ) (n b : ℕ) : Type 0 where
  pub inside : b < length sums
  pub least : (k : ℕ) → k < n → slice_index sums b ≤ slice_index sums k
  pub first : (k : ℕ) → k < b → slice_index sums b < slice_index sums k

-- Of the first n ranks, best is the first of the heaviest with this place that fit into the room, where most isn't 0.
pub record IsHeaviestThatFits (loads : List Load) (plan : List ProcId) (from room n best most : ℕ) : Type 0 where
  pub none_more : (k : ℕ) → k < n → (proc_at plan k).0 ≡ from → ticks_at loads k ≤ room → ticks_at loads k ≤ most
  pub in_list : 0 < most → best < n
  pub is_there : 0 < most → (proc_at plan best).0 ≡ from
  pub has : 0 < most → ticks_at loads best ≡ most
  pub fits : most ≤ room
  pub first : (k : ℕ) → k < best → (proc_at plan k).0 ≡ from → ticks_at loads k ≤ room → ticks_at loads k < most

-- a step of the code is a move by the rule
pub record IsStep (loads : List Load) (live plan : List ProcId) (sums : List ℕ) (limit : ℕ) (step : Move) : Type 0 where
  pub of_run : step.rank < length plan
  pub from_live : step.from < length live
  pub to_live : step.to < length live
  pub weight : step.ticks ≡ ticks_at loads step.rank
  pub positive : 0 < step.ticks
  pub was_there : proc_at plan step.rank ≡ proc_at live step.from
  pub over : limit < slice_index sums step.from
  pub enough : step.ticks ≤ slice_index sums step.from
  pub fits : slice_index sums step.to + step.ticks ≤ limit
  pub is_move : IsMove loads live limit plan (slice_set plan step.rank (proc_at live step.to))

-- the numbers are the loads of the live processors
abbrev pub AreSums : List Load → List ProcId → List ProcId → List ℕ → Type 0
AreSums loads live plan sums = sums ≡ map (load_on plan loads) live
