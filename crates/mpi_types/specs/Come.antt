-- Which answers of MPI calls may come.
use Rattle.std.specs.Prelude.{ℕ, ℤ, ◌^◌, ◌<◌, List, All, length}
use Rattle.std.specs.Int.{w32}
use Rattle.std.specs.Int.RustNames.{FitsSigned}
use Rattle.mpi_types.specs.declared.call.Answer.{Answer}
use Rattle.mpi_types.specs.declared.call.Answer.TheVariants.{Half, Value, Trap, End}
use Rattle.mpi_types.specs.declared.call.Write.{Write}

-- The write's numbers fit, and its bytes go where the program may reach: IsOpen tells of an address and how many bytes
-- stand from it on.
pub record MayBeWritten (IsOpen : ℕ → ℕ → Type 0) (write : Write) : Type 0 where
  pub address_fits : write.address < 2 ^ 64
  pub bytes_fit : All (λ byte. byte < 256) write.bytes
  pub reached : IsOpen write.address (length write.bytes)

pub record MayGive (IsOpen : ℕ → ℕ → Type 0) (result : ℤ) (writes : List Write) : Type 0 where
  pub result_fits : FitsSigned w32 result
  pub written : All (MayBeWritten IsOpen) writes

-- The answer may come: its numbers fit their types, and its bytes go to accessible addresses.
abbrev pub MayCome : (ℕ → ℕ → Type 0) → Answer → Type 0
MayCome IsOpen Half = Unit {0}
MayCome IsOpen (Value result writes) = MayGive IsOpen result writes
MayCome IsOpen (Trap cause) = Unit {0}
MayCome IsOpen (End status) = FitsSigned w32 status
