-- The number of a request that a variable holds.
use Rattle.std.specs.Prelude.{ℕ, ◌≡◌, ◌≢◌, true, None}
use Rattle.rank_range.specs.Areas.{Areas}
use Rattle.mpi_rules.specs.Data.{MpiData, is_live}
use Rattle.mpi_rules.specs.Faults.{cause_of}
use Rattle.mpi_rules.specs.Places.{is_open, variable_at}
use Rattle.mpi_rules.specs.Requests.{variable_faults}

-- nothing is wrong with the variable, and it holds this number
pub record IsHeld (areas : Areas) (mpi : MpiData) (variable n : ℕ) : Type 0 where
  pub number : n ≡ variable_at areas variable
  pub checks : None ≡ cause_of (variable_faults areas mpi variable)
  pub reached : is_open areas variable 4 ≡ true
  pub live : n ≢ 0 → is_live mpi n ≡ true
