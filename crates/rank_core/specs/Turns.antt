-- In which turn a rank's calls of MPI come: the second tick of a call where its first one was answered by half, and else a first one.
use Rattle.std.specs.Prelude.{ℕ, ◌≡◌, ◌≤◌, Bool, true, false, List, [], ◌∷◌, length, Option, Some, None}
use Rattle.am_base.specs.Calls.{mpi_parameters}
use Rattle.mpi_types.specs.declared.call.Answer.{Answer}
use Rattle.mpi_types.specs.declared.call.Answer.TheVariants.{Half, Value, Trap, End}
use Rattle.mpi_types.specs.declared.call.Call.{Call}
use Rattle.vm_code.specs.declared.code.Code.{Code}
use Rattle.vm_code.specs.Stops.{Done, Waits}
use Rattle.vm_code.specs.Machine.{Config, Stops, given}
use Rattle.rank_machine.specs.View.{Rank, Tally, config_at}

abbrev pub is_half : Answer → Bool
is_half Half = true
is_half (Value result writes) = false
is_half (Trap cause) = false
is_half (End status) = false

-- whether the last of these answers is half of one; where there is none it is as before
abbrev pub ends_half : Bool → List Answer → Bool
ends_half before [] = before
ends_half before (a ∷ answers) = ends_half (is_half a) answers

-- the call that was answered by half: the last one of those that took a tick
abbrev pub begun_in : Bool → List Call → Option Call
begun_in false made = None
begun_in true [] = None
begun_in true (call ∷ made) = Some call

abbrev pub HasArguments : Call → Type 0
HasArguments call = length (mpi_parameters call.name) ≤ length call.args

-- The call comes in its turn, and has its arguments.
abbrev pub IsInTurn : Option Call → Call → Type 0
IsInTurn None call = (call.second ≡ false) × HasArguments call
IsInTurn (Some begun) call = (call ≡ record begun { second = true }) × HasArguments call

-- Each call at which the machine waits comes in its turn, whatever ticks it takes and whatever answers come before.
pub record AsksInTurn (code : Code) (c : Config) (half : Bool) : Type 0 where
  pub turn : (left : ℕ) (answers : List Answer) (call : Call) (done : Done) → Stops code (given left answers c) (Waits call) done
      → IsInTurn (begun_in (ends_half half answers) done.made) call

-- So do the calls from where a rank stands whose last answer was half of this call's, or of none.
pub record AsksOn (code : Code) (rank : Rank) (printed : ℕ) (begun : Option Call) : Type 0 where
  pub tally : Tally
  pub half : Bool
  pub size : length tally.text ≡ printed
  pub begun_is : begun ≡ begun_in half tally.made
  pub asks : AsksInTurn code (config_at code rank tally) half
