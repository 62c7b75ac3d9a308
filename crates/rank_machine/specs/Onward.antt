-- Where the condition of a run comes from: a rank has it before its first instruction, behind a run, and behind an answer.
use Rattle.std.specs.Prelude.{ℕ, ◌≡◌, ◌-◌, ◌<◌, ℤ, true, List, [], Option, None, slice_get}
use Rattle.rank_range.specs.Layout.{globals_start, stack_start, range_bytes}
use Rattle.rank_range.specs.Parts.{StayBeside}
use Rattle.rank_range.specs.Areas.{memory_of}
use Rattle.rank_range.specs.declared.run.Output.{Output}
use Rattle.rank_range.specs.declared.run.Segment.{Segment}
use Rattle.mpi_types.specs.declared.call.Write.{Write}
use Rattle.vm_code.specs.declared.code.Code.{Code}
use Rattle.vm_code.specs.Memory.{opened, written_all}
use Rattle.vm_code.specs.Machine.{Goes, start}
use Rattle.rank_machine.specs.View.{Rank, record_place, frame_at, words_for}
use Rattle.rank_machine.specs.Ran.{CallsMain, Stands, GoesOn, Gone, is_mpi, goes_on}
use Rattle.rank_machine.specs.Answered.{TakesAnswer, IsAnswered}
use Rattle.rank_machine.specs.declared.stop.Stop.{Stop}

-- A rank before its first instruction, with the opening memory of a program.
pub record IsFresh (segment : Segment) (rank : Rank) : Type 0 where
  pub place : rank.place ≡ 0
  pub depth : rank.depth ≡ 0
  pub ticks : rank.ticks ≡ 0
  pub top : rank.top ≡ stack_start
  pub memory : memory_of rank.number rank.top rank.bytes ≡ opened segment rank.number

-- It stands so and its code goes on, where the code does so from its start.
abbrev pub FreshRanksRun : Type 0
FreshRanksRun =
    (code : Code) (segment : Segment) (rank : Rank) → CallsMain code → IsFresh segment rank
    → Goes code (start (opened segment rank.number) (words_for rank.number (slice_get code.instrs 0)) 0 [])
    → Stands code rank × GoesOn code rank 0

-- A rank whose code went on before a run that stopped for the time being goes on behind it.
abbrev pub RunsLeadOn : Type 0
RunsLeadOn =
    (code : Code) (old new : Rank) (budget : ℕ) (old_output new_output : Output) (result : Stop)
    → GoesOn code old old_output.printed → Gone code old budget old_output new_output result new → goes_on result ≡ true
    → GoesOn code new new_output.printed

-- A rank that stands at a call of MPI, its bytes as they are once the call has written: no byte before the globals changed.
pub record AtMpi (code : Code) (rank : Rank) (bytes : List ℕ) : Type 0 where
  pub stands : Stands code rank
  pub call : is_mpi (slice_get code.instrs rank.place) ≡ true
  pub beside : StayBeside rank.bytes bytes globals_start range_bytes

-- It is in a call and takes any answer, whatever the call wrote: a value or none.
abbrev pub AnswersAreTaken : Type 0
AnswersAreTaken =
    (code : Code) (rank : Rank) (bytes : List ℕ) (printed : ℕ) (value : Option ℤ) → GoesOn code rank printed → AtMpi code rank bytes
    → (0 < rank.depth) × TakesAnswer code rank.place (frame_at bytes rank.top (record_place (rank.depth - 1))).operands value

-- The call wrote this, and where it keeps its second tick it wrote nothing.
pub record HasWritten (rank : Rank) (bytes : List ℕ) (value : Option ℤ) (writes : List Write) : Type 0 where
  pub written : written_all (memory_of rank.number rank.top rank.bytes) writes ≡ memory_of rank.number rank.top bytes
  pub nothing : value ≡ None → writes ≡ []

-- A rank whose code went on before the answer goes on behind it.
abbrev pub AnswersLeadOn : Type 0
AnswersLeadOn =
    (code : Code) (old new : Rank) (bytes : List ℕ) (printed : ℕ) (value : Option ℤ) (writes : List Write) → GoesOn code old printed
    → AtMpi code old bytes → HasWritten old bytes value writes → IsAnswered code (record old { bytes = bytes }) value new
    → GoesOn code new printed
