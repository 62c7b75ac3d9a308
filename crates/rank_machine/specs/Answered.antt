-- The answer to a call of MPI at which a rank stands.
use Rattle.std.specs.Prelude.{ℕ, suc, ◌≡◌, ◌+◌, ◌^◌, ◌<◌, ◌≤◌, ℤ, Bool, List, ◌∷◌, length, drop, Option, Some, None, slice_get}
use Rattle.am_base.specs.declared.calls.MpiCall.{MpiCall}
use Rattle.rank_range.specs.Kinds.{word_of}
use Rattle.rank_range.specs.Areas.{Memory, memory_of}
use Rattle.mpi_types.specs.declared.call.Call.{Call}
use Rattle.mpi_types.specs.declared.call.Write.{Write}
use Rattle.mpi_types.specs.declared.call.Answer.{Answer}
use Rattle.mpi_types.specs.declared.call.Answer.TheVariants.{Half, Value}
use Rattle.vm_code.specs.declared.code.Code.{Code}
use Rattle.vm_code.specs.declared.instr.Instr.TheVariants as instr
use Rattle.vm_code.specs.Memory.{written_all}
use Rattle.vm_code.specs.Machine.{Went, one_step, with_memory, operand_limit, behind_call, second_place}
use Rattle.rank_machine.specs.View.{Tally, Rank, config_at}
use Rattle.rank_machine.specs.declared.work.Work.{Work}

-- the place of the next instruction after an answer: with no value the call has a second tick
abbrev pub place_behind : Bool → Option ℤ → ℕ → ℕ
place_behind second None place = second_place second place
place_behind second (Some v) place = behind_call second place

-- the operands after an answer
abbrev pub operands_behind : ℕ → Option ℤ → List ℕ → List ℕ
operands_behind count None operands = operands
operands_behind count (Some v) operands = word_of v ∷ drop count operands

-- the call that is under way after an answer
abbrev pub after_answer : ℕ → Bool → Option ℤ → Work → Work
after_answer count second value work =
    record work { place = place_behind second value work.place; operands = operands_behind count value work.operands }

-- The machine stands at a call of MPI that has its arguments; with a value there is room for it.
pub record TakesAnswer (code : Code) (place : ℕ) (operands : List ℕ) (value : Option ℤ) : Type 0 where
  pub call : MpiCall
  pub count : ℕ
  pub second : Bool
  pub found : slice_get code.instrs place ≡ Some (instr.Mpi call count second)
  pub enough : count ≤ length operands
  pub near : place_behind second value place < 2 ^ 32
  pub room : (v : ℤ) → value ≡ Some v → length (drop count operands) < operand_limit

-- The call that is under way was answered so.
pub record HasAnswer (code : Code) (old : Work) (value : Option ℤ) (new : Work) : Type 0 where
  pub takes : TakesAnswer code old.place old.operands value
  pub after : new ≡ after_answer takes.count takes.second value old

-- The answer's step: None is the first tick of two; a value is one with the writes that were done before.
abbrev pub StepsBy : Code → Rank → Option ℤ → Rank → Call → Type 0
StepsBy code old None new call =
    (tally : Tally) (left : ℕ) (answers : List Answer)
    → one_step code (config_at code old (record tally { left = suc left; answers = Half ∷ answers }))
    ≡ Went (config_at code new (record tally { made = call ∷ tally.made; left = left; answers = answers }))
StepsBy code old (Some v) new call =
    (tally : Tally) (left : ℕ) (answers : List Answer) (before : Memory) (writes : List Write)
    → written_all before writes ≡ memory_of old.number old.top old.bytes
    → one_step code (with_memory before (config_at code old (record tally { left = suc left; answers = Value v writes ∷ answers })))
    ≡ Went (config_at code new (record tally { made = call ∷ tally.made; left = left; answers = answers }))

-- A rank's call of MPI was answered so: its tick is counted, and the machine went on by one step.
pub record IsAnswered (code : Code) (old : Rank) (value : Option ℤ) (new : Rank) : Type 0 where
  pub call : Call
  pub counted : new.ticks ≡ old.ticks + 1
  pub step : StepsBy code old value new call
