-- What a search in a list finds.
use Rattle.std.specs.Prelude.{ℕ, ◌<◌, ◌≤◌, List, All, length, take, drop, get_or}
use Rattle.mpi_types.specs.First.{NoneOf}
use Rattle.mpi_types.specs.declared.lists.MatchedPair.{MatchedPair}

-- The element at this place meets the condition, and none before it does.
pub record IsFirstAt {X : Type 0} (P : X → Type 0) (xs : List X) (at : ℕ) : Type 0 where
  pub within : at < length xs
  pub meets : (d : X) → P (get_or xs at d)
  pub none_before : NoneOf P (take at xs)

-- The element at this place meets the condition.
pub record IsAt {X : Type 0} (P : X → Type 0) (xs : List X) (at : ℕ) : Type 0 where
  pub within : at < length xs
  pub meets : (d : X) → P (get_or xs at d)

-- Every pair before this place has a lower request, and none from it on has.
pub record IsPlaceOf (request : ℕ) (pairs : List MatchedPair) (at : ℕ) : Type 0 where
  pub within : at ≤ length pairs
  pub lower : All (λ pair. pair.receive.request < request) (take at pairs)
  pub others : All (λ pair. request ≤ pair.receive.request) (drop at pairs)
