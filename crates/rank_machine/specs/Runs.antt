-- What a machine does in a run: where it goes on from, and how it ends.
use Rattle.std.specs.Prelude.{ℕ, ◌≡◌, ◌+◌, ◌≤◌, ◌<◌, ◌++◌, Bool, true, false, List, length, Option, Some, None, slice_get}
use Rattle.rank_range.specs.Output.{with_text}
use Rattle.rank_range.specs.declared.run.Output.{Output}
use Rattle.am_base.specs.declared.calls.MpiCall.{MpiCall}
use Rattle.vm_code.specs.declared.code.Code.{Code}
use Rattle.vm_code.specs.declared.instr.Instr.{Instr}
use Rattle.vm_code.specs.declared.instr.Instr.TheVariants as instr
use Rattle.vm_code.specs.Bounded.{is_tick}
use Rattle.vm_code.specs.Lines.{place_of}
use Rattle.vm_code.specs.Stops.{Stop, Ended, Trapped, Done}
use Rattle.vm_code.specs.Machine.{Config, Stuck, exec, Stops}
use Rattle.rank_machine.specs.View.{Tally, config_of, done_of}
use Rattle.rank_machine.specs.Steps.{is_call_of_mpi}
use Rattle.rank_machine.specs.declared.work.Work.{Work}
use Rattle.rank_machine.specs.declared.halt.Halt.TheVariants as halt
use Rattle.rank_machine.specs.declared.halt.Rest.{Rest}
use Rattle.rank_machine.specs.declared.halt.Rest.TheVariants as rest

-- with so many ticks more that may be taken
abbrev pub with_ticks : ℕ → Tally → Tally
with_ticks taken tally = record tally { left = taken + tally.left }

-- with so many ticks taken, and this text printed
abbrev pub run_on : ℕ → List ℕ → Tally → Tally
run_on taken out tally = record tally { text = tally.text ++ out; ticks = tally.ticks + taken }

-- With this number of ticks one machine comes to where the other one is, and goes on as that does: whatever it printed before and
-- whatever ticks and answers are left. It prints this text on the way.
pub record LeadsTo (code : Code) (from to : Tally → Config) (printed taken : ℕ) (out : List ℕ) : Type 0 where
  pub count : ℕ
  pub joined : (tally : Tally) (more : ℕ) → length tally.text ≡ printed
      → exec code (count + more) (from (with_ticks taken tally)) ≡ exec code more (to (run_on taken out tally))

-- With this number of ticks, and with more, the machine stops so, with this done.
pub record EndsAs (code : Code) (from : Tally → Config) (done : Tally → Done) (printed taken : ℕ) (out : List ℕ) (stop : Stop) : Type 0 where
  pub ends : (tally : Tally) → length tally.text ≡ printed → Stops code (from (with_ticks taken tally)) stop (done (run_on taken out tally))

-- The machine gets stuck, with this number of ticks and with more.
pub record Strands (code : Code) (from : Tally → Config) (printed taken : ℕ) : Type 0 where
  pub count : ℕ
  pub stuck : (tally : Tally) → length tally.text ≡ printed → exec code count (from (with_ticks taken tally)) ≡ Stuck

-- how many operands an instruction takes as arguments
abbrev pub arguments_of : Instr → ℕ
arguments_of (instr.Call function count) = count
arguments_of (instr.Library call count) = count
arguments_of (instr.Mpi call count second) = count
arguments_of _ = 0

-- how many ticks it takes
abbrev pub ticks_in : Bool → ℕ
ticks_in true = 1
ticks_in false = 0

-- Whether a machine with so many operands and ticks left rests before the instruction, and how.
abbrev pub RestsHere : Instr → ℕ → ℕ → Option Rest → Type 0
RestsHere i operands left None = (is_call_of_mpi i ≡ false) × (is_tick (Some i) ≡ true → 0 < left)
RestsHere i operands left (Some rest.Paused) =
    (left ≡ 0) × (is_tick (Some i) ≡ true) × (is_call_of_mpi i ≡ false) × (arguments_of i ≤ operands)
RestsHere i operands left (Some rest.Calls) = (is_call_of_mpi i ≡ true) × (arguments_of i ≤ operands)
RestsHere i operands left (Some (rest.Halted halt.Lost)) = (is_tick (Some i) ≡ true) × (operands < arguments_of i)
RestsHere i operands left (Some (rest.Halted (halt.Returned status))) = ⊥
RestsHere i operands left (Some (rest.Halted (halt.Exited status))) = ⊥
RestsHere i operands left (Some (rest.Halted (halt.Trapped cause))) = ⊥
RestsHere i operands left (Some rest.Memory) = ⊥

-- The machine stands at a tick point that is no call of MPI, and has its arguments.
pub record AtTick (code : Code) (place : ℕ) (operands : List ℕ) : Type 0 where
  pub instr : Instr
  pub found : slice_get code.instrs place ≡ Some instr
  pub tick : is_tick (Some instr) ≡ true
  pub no_call : is_call_of_mpi instr ≡ false
  pub enough : arguments_of instr ≤ length operands

-- The machine stands at a call of MPI, and has its arguments.
pub record AtCall (code : Code) (place : ℕ) (operands : List ℕ) : Type 0 where
  pub call : MpiCall
  pub count : ℕ
  pub second : Bool
  pub found : slice_get code.instrs place ≡ Some (instr.Mpi call count second)
  pub enough : count ≤ length operands

-- How a run from one machine to another came to rest.
abbrev pub RestsAs : Code → (Tally → Config) → Work → ℕ → ℕ → List ℕ → ℕ → ℕ → ℕ → List ℕ → Rest → Type 0
RestsAs code from new rank top bytes printed taken left out (rest.Halted (halt.Returned status)) =
    EndsAs code from (done_of rank top bytes) printed taken out (Ended status)
RestsAs code from new rank top bytes printed taken left out (rest.Halted (halt.Exited status)) =
    EndsAs code from (done_of rank top bytes) printed taken out (Ended status)
RestsAs code from new rank top bytes printed taken left out (rest.Halted (halt.Trapped cause)) =
    EndsAs code from (done_of rank top bytes) printed taken out (Trapped cause (place_of code new.place).unit (place_of code new.place).line)
RestsAs code from new rank top bytes printed taken left out (rest.Halted halt.Lost) = Strands code from printed taken
RestsAs code from new rank top bytes printed taken left out rest.Paused =
    LeadsTo code from (config_of new rank top bytes) printed taken out × (left ≡ 0) × AtTick code new.place new.operands
RestsAs code from new rank top bytes printed taken left out rest.Calls =
    LeadsTo code from (config_of new rank top bytes) printed taken out × AtCall code new.place new.operands
RestsAs code from new rank top bytes printed taken left out rest.Memory =
    LeadsTo code from (config_of new rank top bytes) printed taken out × (is_tick (slice_get code.instrs new.place) ≡ true)

-- A run took so many of the ticks that were left, printed a text, and came to rest.
pub record CameToRest (code : Code) (from : Tally → Config) (new : Work) (rank top : ℕ) (bytes : List ℕ) (old_output new_output : Output)
    (old_left new_left : ℕ) (rests : Rest) : Type 0 where
  pub taken : ℕ
  pub out : List ℕ
  pub all : taken + new_left ≡ old_left
  pub output : new_output ≡ with_text old_output out
  pub rests_as : RestsAs code from new rank top bytes old_output.printed taken new_left out rests
