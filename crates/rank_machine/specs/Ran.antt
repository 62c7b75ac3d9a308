-- What a run of a rank up to so many ticks did.
use Rattle.std.specs.Prelude.{ℕ, suc, ◌≡◌, ◌+◌, ◌≤◌, ◌⊎◌, Bool, true, false, List, [], length, Option, Some, slice_get}
use Rattle.rank_range.specs.Layout.{stack_start}
use Rattle.rank_range.specs.Numbers.{number_at}
use Rattle.rank_range.specs.Output.{with_text, with_last_line}
use Rattle.rank_range.specs.declared.run.Output.{Output}
use Rattle.rank_range.specs.declared.run.CallOut.{CallOut}
use Rattle.mpi_types.specs.declared.call.Call.{Call}
use Rattle.vm_code.specs.declared.code.Code.{Code}
use Rattle.vm_code.specs.declared.code.Function.{Function}
use Rattle.vm_code.specs.declared.instr.Instr.{Instr}
use Rattle.vm_code.specs.declared.instr.Instr.TheVariants as instr
use Rattle.vm_code.specs.Bounded.{is_tick}
use Rattle.vm_code.specs.Lines.{place_of}
use Rattle.vm_code.specs.Stops as stops
use Rattle.vm_code.specs.Machine.{Config, Stopped, Goes, one_step}
use Rattle.rank_machine.specs.View.{Tally, Rank, record_place, config_at, done_at}
use Rattle.rank_machine.specs.Runs.{LeadsTo, EndsAs}
use Rattle.rank_machine.specs.declared.stop.Stop.{Stop}
use Rattle.rank_machine.specs.declared.stop.Stop.TheVariants as stop

-- The first instruction of the code calls a function, `main`, with at most two arguments.
pub record CallsMain (code : Code) : Type 0 where
  pub function : ℕ
  pub count : ℕ
  pub callee : Function
  pub found : slice_get code.instrs 0 ≡ Some (instr.Call function count)
  pub few : count ≤ 2
  pub there : slice_get code.functions function ≡ Some callee

-- The rank stands before its first instruction.
pub record AtFirst (code : Code) (rank : Rank) : Type 0 where
  pub place : rank.place ≡ 0
  pub empty : rank.top ≡ stack_start
  pub calls : CallsMain code

-- A rank may stand so between two runs: at most 256 calls are under way; before its first instruction, where none is; and where
-- the record of the innermost one has the top as the end of its frame.
pub record Stands (code : Code) (rank : Rank) : Type 0 where
  pub deep : rank.depth ≤ 256
  pub first : rank.depth ≡ 0 → AtFirst code rank
  pub ends : (number : ℕ) → rank.depth ≡ suc number → number_at rank.bytes (record_place number + 16) 8 ≡ rank.top

-- The code goes on from where the rank stands, whatever ticks it may take and whatever answers come.
pub record GoesOn (code : Code) (rank : Rank) (printed : ℕ) : Type 0 where
  pub tally : Tally
  pub size : length tally.text ≡ printed
  pub goes : Goes code (config_at code rank tally)

abbrev pub is_mpi : Option Instr → Bool
is_mpi (Some (instr.Mpi call count second)) = true
is_mpi _ = false

-- With no tick left the machine stops here.
abbrev pub PausesHere : Code → (Tally → Config) → Type 0
PausesHere code at =
    (tally : Tally) → one_step code (at (record tally { left = 0 })) ≡ Stopped stops.Paused (at (record tally { left = 0 }))

abbrev pub call_of : CallOut → Call
call_of out = record { name = out.call; args = out.arguments; second = out.second }

-- With no answer left the machine waits here, at this call of MPI.
abbrev pub WaitsHere : Code → (Tally → Config) → CallOut → Type 0
WaitsHere code at out =
    (tally : Tally) (left : ℕ) → one_step code (at (record tally { left = suc left; answers = [] }))
    ≡ Stopped (stops.Waits (call_of out)) (at (record tally { left = suc left; answers = [] }))

-- How a run of a machine stopped, by what its rank is then: it leads there with so many ticks and prints this text.
abbrev pub StopsAs : Code → (Tally → Config) → ℕ → Rank → ℕ → ℕ → List ℕ → Stop → Type 0
StopsAs code from printed new taken left out (stop.Ended status) = EndsAs code from (done_at new) printed taken out (stops.Ended status)
StopsAs code from printed new taken left out (stop.Trap cause unit line) =
    EndsAs code from (done_at new) printed taken out (stops.Trapped cause unit line)
StopsAs code from printed new taken left out stop.Paused =
    LeadsTo code from (config_at code new) printed taken out × (left ≡ 0) × PausesHere code (config_at code new)
    × (is_mpi (slice_get code.instrs new.place) ≡ false)
StopsAs code from printed new taken left out (stop.Call call) =
    LeadsTo code from (config_at code new) printed taken out × WaitsHere code (config_at code new) call
    × (is_mpi (slice_get code.instrs new.place) ≡ true)
    × (call.unit ≡ (place_of code new.place).unit) × (call.line ≡ (place_of code new.place).line)
StopsAs code from printed new taken left out stop.Memory =
    LeadsTo code from (config_at code new) printed taken out × (is_tick (slice_get code.instrs new.place) ≡ true)

-- what is printed when a run stops: at an ending or a trap the unfinished text is a line
abbrev pub output_at : Stop → Output → Output
output_at (stop.Ended status) output = with_last_line output
output_at (stop.Trap cause unit line) output = with_last_line output
output_at stop.Paused output = output
output_at (stop.Call call) output = output
output_at stop.Memory output = output

-- the machine goes on later
abbrev pub goes_on : Stop → Bool
goes_on (stop.Ended status) = false
goes_on (stop.Trap cause unit line) = false
goes_on stop.Paused = true
goes_on (stop.Call call) = true
goes_on stop.Memory = true

-- A run from a machine took so many of the ticks that it might take and left the others, counted them, and stopped so.
pub record RanFrom (code : Code) (from : Tally → Config) (ticks printed budget : ℕ) (old_output new_output : Output) (result : Stop) (new : Rank)
    : Type 0 where
  pub taken : ℕ
  pub left : ℕ
  pub out : List ℕ
  pub all : taken + left ≡ budget
  pub counted : new.ticks ≡ ticks + taken
  pub output : new_output ≡ with_text old_output out
  pub stops : StopsAs code from printed new taken left out result

-- A rank ran up to `budget` ticks.
pub record Ran (code : Code) (old : Rank) (budget : ℕ) (old_output new_output : Output) (result : Stop) (new : Rank) : Type 0 where
  pub taken : ℕ
  pub left : ℕ
  pub out : List ℕ
  pub all : taken + left ≡ budget
  pub counted : new.ticks ≡ old.ticks + taken
  pub output : new_output ≡ output_at result (with_text old_output out)
  pub stops : StopsAs code (config_at code old) old_output.printed new taken left out result

-- The host had no memory for the room of one more line, so that nothing was run.
pub record Unopened (old new : Rank) (old_output new_output : Output) (result : Stop) : Type 0 where
  pub memory : result ≡ stop.Memory
  pub rank : new ≡ old
  pub output : new_output ≡ old_output

-- A rank ran up to `budget` ticks, or nothing was run.
abbrev pub Gone : Code → Rank → ℕ → Output → Output → Stop → Rank → Type 0
Gone code old budget old_output new_output result new =
    Unopened old new old_output new_output result ⊎ Ran code old budget old_output new_output result new
