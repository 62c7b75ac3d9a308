-- What holds of a rank between two ticks, so that it may be run and its calls of MPI may be made.
use Rattle.std.specs.Prelude.{ℕ, ℤ, suc, ◌≡◌, ◌+◌, ◌-◌, ◌^◌, ◌<◌, ◌≤◌, true, false, List, [], ◌∷◌, length, Option, Some, None, slice_get}
use Rattle.am_base.specs.declared.calls.MpiCall.{MpiCall}
use Rattle.rank_range.specs.declared.run.CallOut.{CallOut}
use Rattle.rank_range.specs.declared.run.Ending.{Ending}
use Rattle.rank_range.specs.declared.run.Output.{Output}
use Rattle.rank_range.specs.declared.run.Regs.{Regs}
use Rattle.rank_range.specs.declared.run.Segment.{Segment}
use Rattle.rank_range.specs.Nodes.{HasHeap}
use Rattle.rank_range.specs.Output.{text_limit}
use Rattle.rank_image.specs.declared.load.Load.{Load}
use Rattle.mpi_types.specs.declared.argument.Sweep.{Sweep}
use Rattle.mpi_types.specs.declared.call.Answer.{Answer}
use Rattle.mpi_types.specs.declared.call.Call.{Call}
use Rattle.mpi_types.specs.declared.call.Write.{Write}
use Rattle.mpi_types.specs.declared.lists.BookLists.{BookLists}
use Rattle.mpi_types.specs.declared.message.Hit.{Hit}
use Rattle.mpi_types.specs.declared.message.Message.{Message}
use Rattle.mpi_types.specs.declared.state.OwnData.{OwnData}
use Rattle.mpi_types.specs.declared.state.Reorder.{Reorder}
use Rattle.mpi_types.specs.Post.{Arrives}
use Rattle.mpi_rules.specs.Answers.{value_or_half}
use Rattle.mpi_rules.specs.Data.{is_live}
use Rattle.mpi_call.specs.Answers.{Kept, kept, data_in}
use Rattle.mpi_call.specs.Lawful.{MayBegin, MayEndCall, MayFinish}
use Rattle.mpi_call.specs.Served.{collective_of, is_receive, is_second}
use Rattle.mpi_call.specs.Steady.{IsSteady}
use Rattle.vm_code.specs.declared.code.Code.{Code}
use Rattle.vm_code.specs.Machine.{Goes, Went, one_step, start}
use Rattle.vm_code.specs.Memory.{opened}
use Rattle.rank_machine.specs.declared.stop.Stop.{Stop}
use Rattle.rank_machine.specs.Answered.{IsAnswered}
use Rattle.rank_machine.specs.Onward.{AtMpi, HasWritten}
use Rattle.rank_machine.specs.Ran.{CallsMain, GoesOn, Gone, Stands, WaitsHere, call_of, goes_on}
use Rattle.rank_machine.specs.View.{Rank, Tally, config_at, words_for}
use Rattle.rank_core.specs.Started.{IsStarted, rank_at}
use Rattle.rank_core.specs.Turns.{AsksInTurn, AsksOn, HasArguments}

-- The rank has taken the first of a call's two ticks: the request of a receive is live, directly below the next number, and nothing is joined;
-- and of a collective it is known what it may gather.
pub record IsHalfDone (call : Call) (k : Kept) : Type 0 where
  pub two : is_second call.name ≡ true
  pub some : is_receive call.name ≡ true → 1 < k.own.next
  pub live : is_receive call.name ≡ true → is_live (data_in k) (k.own.next - 1) ≡ true
  pub idle : is_receive call.name ≡ true → k.sweep.joined ≡ None
  pub gathered : MayEndCall (collective_of call.name) k.own call.args k.sweep.joined

-- the same of no call: nothing is joined
abbrev pub IsHalfway : Option Call → Kept → Type 0
IsHalfway None k = k.sweep.joined ≡ None
IsHalfway (Some call) k = IsHalfDone call k

-- What holds of a rank that runs, between two ticks, with what it printed and what it has of MPI.
pub record IsSettled (code : Code) (rank : Rank) (output : Output) (k : Kept) : Type 0 where
  -- the machine may be run
  pub stands : Stands code rank
  pub goes : GoesOn code rank output.printed
  pub heap : HasHeap rank.number rank.bytes
  pub numbers : output.next + length output.unfinished ≤ output.printed
  pub limit : output.printed ≤ text_limit
  -- it waits at the second tick of a call just where the last answer was half of that call's
  pub begun : Option Call
  pub asks : AsksOn code rank output.printed begun
  pub halfway : IsHalfway begun k
  -- its requests and communicators
  pub steady : IsSteady rank.number rank.ticks k

-- ---- where it comes from

-- It holds before the first tick, where the code calls `main` first, goes on from its start, and makes its calls in turn.
abbrev pub StartsSettled : Type 0
StartsSettled =
    (code : Code) (segment : Segment) (number ranks : ℕ) (regs : Regs) (ending : Ending) (load : Load) (own : OwnData) (sweep : Sweep)
    (lists : BookLists) (sent : List ℕ) (reorder : Reorder) (owner top : ℕ) (bytes : List ℕ) → number < ranks → ranks ≤ 256
    → CallsMain code → Goes code (start (opened segment owner) (words_for owner (slice_get code.instrs 0)) 0 [])
    → AsksInTurn code (start (opened segment owner) (words_for owner (slice_get code.instrs 0)) 0 []) false
    → IsStarted segment number ranks regs ending load own sweep lists sent reorder owner top bytes
    → IsSettled code (rank_at regs owner top bytes) regs.output (kept own sweep lists)

-- It holds behind the arrival of a message.
abbrev pub ArrivesSettled : Type 0
ArrivesSettled =
    (code : Code) (rank : Rank) (output : Output) (k : Kept) (message : Message) (hit : Option Hit) (lists : BookLists)
    → IsSettled code rank output k → Arrives k.lists message hit lists → IsSettled code rank output (kept k.own k.sweep lists)

-- What else a run of the machine leaves, if the rank goes on later.
pub record IsLeft (code : Code) (old new : Rank) (output : Output) : Type 0 where
  pub number_is : new.number ≡ old.number
  pub stands : Stands code new
  pub heap : HasHeap new.number new.bytes
  pub numbers : output.next + length output.unfinished ≤ output.printed
  pub limit : output.printed ≤ text_limit

-- It holds behind a run of the machine, if the rank goes on later.
abbrev pub RunsSettled : Type 0
RunsSettled =
    (code : Code) (old new : Rank) (budget : ℕ) (old_output new_output : Output) (result : Stop) (k : Kept)
    → IsSettled code old old_output k → Gone code old budget old_output new_output result new → goes_on result ≡ true
    → IsLeft code old new new_output → IsSettled code new new_output k

-- ---- what it is for

-- The call may be made: at a first tick it may begin, and may end if it has no second one; at a second tick it may end.
pub record MayCall (number : ℕ) (k : Kept) (call : CallOut) : Type 0 where
  pub arguments : HasArguments (call_of call)
  pub first : call.second ≡ false → MayBegin number k.own k.sweep k.lists
  pub whole : call.second ≡ false → is_second call.call ≡ false → MayFinish call.call call.arguments k.own k.sweep k.lists
  pub rest : call.second ≡ true → (is_second call.call ≡ true) × MayFinish call.call call.arguments k.own k.sweep k.lists

-- So each call may be made at which the rank waits, while its ticks leave room for one more request.
abbrev pub SettledCalls : Type 0
SettledCalls =
    (code : Code) (rank : Rank) (output : Output) (k : Kept) (call : CallOut) → IsSettled code rank output k
    → WaitsHere code (config_at code rank) call → rank.ticks + 2 < 2 ^ 32 → MayCall rank.number k call

-- ---- behind an answer

-- An answer is one step of the machine, from before the call has written.
abbrev pub AnswersAreSteps : Type 0
AnswersAreSteps =
    (code : Code) (old new : Rank) (bytes : List ℕ) (value : Option ℤ) (writes : List Write) → AtMpi code old bytes
    → HasWritten old bytes value writes → (answered : IsAnswered code (record old { bytes = bytes }) value new)
    → (tally : Tally) (left : ℕ) (answers : List Answer)
    → one_step code (config_at code old (record tally { left = suc left; answers = value_or_half value writes ∷ answers }))
    ≡ Went (config_at code new (record tally { made = answered.call ∷ tally.made; left = left; answers = answers }))

-- the call that was answered by half then, if it was
abbrev pub begun_by : Option ℤ → Call → Option Call
begun_by None call = Some call
begun_by (Some value) call = None

-- The calls behind an answer come in their turn, where those before it did.
abbrev pub AnswersAskOn : Type 0
AnswersAskOn =
    (code : Code) (old new : Rank) (bytes : List ℕ) (printed : ℕ) (value : Option ℤ) (writes : List Write) (begun : Option Call)
    → AsksOn code old printed begun → AtMpi code old bytes → HasWritten old bytes value writes
    → (answered : IsAnswered code (record old { bytes = bytes }) value new) → AsksOn code new printed (begun_by value answered.call)
