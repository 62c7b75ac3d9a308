-- The stack machine: what it does at one instruction, and in so many of them. Its memory is that of the rank's program; it
-- has no bytes of its own.
use Rattle.std.specs.Prelude.{ℕ, ◌≡◌, zero, suc, ◌+◌, if◌then◌else◌, nat_eq, nat_le, nat_lt, Bool, true, false, List, [], ◌∷◌, length, reverse, take, drop, Option, Some, None, Result, Ok, Err, slice_get}
use Rattle.am_base.specs.declared.traps.TrapCause.{TrapCause}
use Rattle.am_base.specs.declared.traps.TrapCause.TheVariants.{BadAddress, CallDepth, DataStack, TextLimit}
use Rattle.am_base.specs.declared.calls.MpiCall.{MpiCall}
use Rattle.rank_range.specs.Layout.{globals_start, stack_start, range_bytes}
use Rattle.rank_range.specs.Kinds.{extended, word_of, value_of}
use Rattle.rank_range.specs.Operators.{operate, operate_one}
use Rattle.rank_range.specs.declared.kinds.Kind.TheVariants as kind
use Rattle.mpi_types.specs.declared.call.Call.{Call}
use Rattle.mpi_types.specs.declared.call.Answer.{Answer}
use Rattle.mpi_types.specs.declared.call.Answer.TheVariants.{Half, Value, Trap, End}
use Rattle.vm_code.specs.declared.code.Code.{Code}
use Rattle.vm_code.specs.declared.code.Function.{Function}
use Rattle.vm_code.specs.declared.instr.Instr.{Instr}
use Rattle.vm_code.specs.declared.instr.Instr.TheVariants as instr
use Rattle.rank_range.specs.Areas.{Memory}
use Rattle.vm_code.specs.Memory.{address_of, stack_top, loaded, stored, copied, zeroed, with_frame, with_arguments, cut_to, written_all}
use Rattle.vm_code.specs.Stops.{Stop, Paused, Waits, Ended, Trapped, Done, asked, with_ticks, printed, fits_text, nothing_done}
use Rattle.vm_code.specs.Library.{LibraryDone, Does, Fails, Exits, library_does}
use Rattle.vm_code.specs.Lines.{place_of}

-- how many operands may be pending in a call
abbrev pub operand_limit : ℕ
operand_limit = 32

-- how many calls may be under way
abbrev pub call_limit : ℕ
call_limit = 256

-- A call that is under way: the place behind the instruction that made it, from where to where its frame lies in the rank's
-- range, and its operands with the topmost one first.
pub record Frame : Type 0 where
  pub back : ℕ
  pub start : ℕ
  pub finish : ℕ
  pub operands : List ℕ

-- The machine between two instructions: the place of the next one; the innermost call, and those that wait for it with the
-- innermost one first, of which the last is no call but holds what `main` is called with; what the rank has done; and the
-- ticks and the answers that are left.
pub record Config : Type 0 where
  pub place : ℕ
  pub frame : Frame
  pub callers : List Frame
  pub done : Done
  pub left : ℕ
  pub answers : List Answer

-- What an instruction does: the machine goes on, or stops, or is stuck, which no code that means a program ever is.
pub data Moved : Type 0 where
  Went : Config → Moved
  Stopped : Stop → Config → Moved
  Stuck : Moved

-- the machine at another place, with other operands
abbrev pub at_place : ℕ → List ℕ → Config → Config
at_place place operands c = record c { place = place; frame = record (c.frame) { operands = operands } }

-- Behind the instruction, with these operands, where there are no more of them than may be.
abbrev pub go_on : List ℕ → Config → Moved
go_on operands c = if nat_le (length operands) operand_limit then Went (at_place (c.place + 1) operands c) else Stuck

abbrev pub jumped : ℕ → List ℕ → Config → Moved
jumped place operands c = Went (at_place place operands c)

abbrev pub with_memory : Memory → Config → Config
with_memory m c = record c { done = record (c.done) { memory = m } }

-- a trap: at the line of the nearest tick point before the instruction
abbrev pub trapped : Code → TrapCause → List ℕ → Config → Moved
trapped code cause operands c =
    Stopped (Trapped cause (place_of code c.place).unit (place_of code c.place).line) (at_place c.place operands c)

abbrev pub with_result : Code → Result ℕ TrapCause → List ℕ → Config → Moved
with_result code (Ok word) operands c = go_on (word ∷ operands) c
with_result code (Err cause) operands c = trapped code cause operands c

-- what was read goes on the operands, or the machine traps
abbrev pub reading : Code → Option ℕ → List ℕ → Config → Moved
reading code None operands c = trapped code BadAddress operands c
reading code (Some word) operands c = go_on (word ∷ operands) c

-- the machine goes on with the memory that was written to, or traps
abbrev pub writing : Code → Option Memory → List ℕ → Config → Moved
writing code None operands c = trapped code BadAddress operands c
writing code (Some m) operands c = go_on operands (with_memory m c)

-- a tick point: with no tick left the machine stops here, to go on from here
abbrev pub ticking : ℕ → Config → (Config → Moved) → Moved
ticking zero c next = Stopped Paused c
ticking (suc left) c next = next (record c { done = with_ticks c.done; left = left })

-- goes on with the topmost operand and those below it, or with the two topmost
abbrev pub with_top : List ℕ → (ℕ → List ℕ → Moved) → Moved
with_top [] next = Stuck
with_top (x ∷ rest) next = next x rest

abbrev pub with_two : List ℕ → (ℕ → ℕ → List ℕ → Moved) → Moved
with_two [] next = Stuck
with_two (y ∷ []) next = Stuck
with_two (y ∷ x ∷ rest) next = next x y rest

-- goes on with the n topmost operands, in the order in which they were put there, and those below them
abbrev pub with_many : ℕ → List ℕ → (List ℕ → List ℕ → Moved) → Moved
with_many n operands next =
    if nat_le n (length operands) then next (reverse (take n operands)) (drop n operands) else Stuck

-- A function is entered, where no more calls are under way than may be, and where its frame fits: the depth is looked at
-- first. Its frame is zero but for its arguments.
abbrev pub entered : Code → Option Function → List ℕ → List ℕ → Config → Moved
entered code None words rest c = Stuck
entered code (Some function) words rest c =
    if nat_le call_limit (length c.callers) then trapped code CallDepth rest c
    else (let top : ℕ = stack_top c.done.memory in
    if nat_lt range_bytes (top + function.frame) then trapped code DataStack rest c
    else Went (record (with_memory (with_arguments function.parameters words top (with_frame c.done.memory function.frame)) c) {
      place = function.place;
      frame = record { back = c.place + 1; start = top; finish = top + function.frame; operands = [] };
      callers = record (c.frame) { operands = rest } ∷ c.callers;
    }))

-- A function is left: its frame is gone, and its result is an operand of the call before it. Where that is no call, `main`
-- was left, and the rank has ended.
abbrev pub left_to : ℕ → List Frame → Config → Moved
left_to word [] c = Stuck
left_to word (caller ∷ []) c =
    Stopped (Ended (value_of kind.Int word))
    (record (with_memory (cut_to c.done.memory caller.finish) c) { place = c.frame.back; frame = caller; callers = [] })
left_to word (caller ∷ other ∷ others) c =
    if nat_lt (length caller.operands) operand_limit
    then Went (record (with_memory (cut_to c.done.memory caller.finish) c) {
      place = c.frame.back;
      frame = record caller { operands = word ∷ caller.operands };
      callers = other ∷ others;
    })
    else Stuck

-- a call of the library: its text is printed where the rank may print so many bytes
abbrev pub library_done : Code → LibraryDone → List ℕ → Config → Moved
library_done code (Does value text m) operands c =
    if fits_text c.done text then go_on (value ∷ operands) (with_memory m (record c { done = printed c.done text }))
    else trapped code TextLimit operands c
library_done code (Fails cause) operands c = trapped code cause operands c
library_done code (Exits status) operands c = Stopped (Ended status) (at_place c.place operands c)

abbrev pub call_of : MpiCall → List ℕ → Bool → Call
call_of name words second = record { name = name; args = words; second = second }

-- the place behind a call of MPI: its second tick is an instruction of its own behind the first one
abbrev pub behind_call : Bool → ℕ → ℕ
behind_call false place = place + 2
behind_call true place = place + 1

abbrev pub second_place : Bool → ℕ → ℕ
second_place false place = place + 1
second_place true place = place

-- what an answer makes of the machine
abbrev pub answered : Code → Answer → Bool → List ℕ → Config → Moved
answered code Half second operands c = Went (record c { place = second_place second c.place })
answered code (Value result writes) second operands c =
    if nat_lt (length operands) operand_limit
    then Went (at_place (behind_call second c.place) (word_of result ∷ operands) (with_memory (written_all c.done.memory writes) c))
    else Stuck
answered code (Trap cause) second operands c = trapped code cause operands c
answered code (End status) second operands c = Stopped (Ended status) (at_place c.place operands c)

-- A tick of a call of MPI: with no tick left the machine is paused there, and with no answer left it waits there.
abbrev pub mpi_tick : Code → ℕ → List Answer → Call → List ℕ → Config → Moved
mpi_tick code zero answers call operands c = Stopped Paused c
mpi_tick code (suc left) [] call operands c = Stopped (Waits call) c
mpi_tick code (suc left) (answer ∷ answers) call operands c =
    answered code answer call.second operands (record c { done = asked c.done call; left = left; answers = answers })

-- One instruction, where there is one.
unfoldable pub act : Code → Option Instr → Config → Moved
act code None c = Stuck
act code (Some (instr.Push word)) c = go_on (word ∷ c.frame.operands) c
act code (Some instr.Pop) c = with_top c.frame.operands (λ x rest. go_on rest c)
act code (Some instr.Dup) c = with_top c.frame.operands (λ x rest. go_on (x ∷ x ∷ rest) c)
act code (Some (instr.Local offset)) c = go_on (address_of c.done.memory (c.frame.start + offset) ∷ c.frame.operands) c
act code (Some (instr.Global offset)) c = go_on (address_of c.done.memory (globals_start + offset) ∷ c.frame.operands) c
act code (Some (instr.Load k)) c =
    with_top c.frame.operands (λ a rest. reading code (loaded c.done.memory k a) rest c)
act code (Some (instr.Store k)) c =
    with_two c.frame.operands (λ a word rest. writing code (stored c.done.memory k a word) (word ∷ rest) c)
act code (Some (instr.Copy count)) c =
    with_two c.frame.operands (λ target source rest. writing code (copied c.done.memory target source count) (target ∷ rest) c)
act code (Some (instr.Zero count)) c =
    with_top c.frame.operands (λ a rest. writing code (zeroed c.done.memory a count) rest c)
act code (Some (instr.Binary op k)) c =
    with_two c.frame.operands (λ a b rest. with_result code (operate op k a b) rest c)
act code (Some (instr.Unary op k)) c =
    with_top c.frame.operands (λ a rest. go_on (operate_one op k a ∷ rest) c)
act code (Some (instr.Extend k)) c =
    with_top c.frame.operands (λ a rest. go_on (extended k a ∷ rest) c)
act code (Some (instr.Jump place)) c = jumped place c.frame.operands c
act code (Some (instr.JumpIfZero place)) c =
    with_top c.frame.operands (λ x rest. jumped (if nat_eq x 0 then place else c.place + 1) rest c)
act code (Some (instr.JumpIfNot place)) c =
    with_top c.frame.operands (λ x rest. jumped (if nat_eq x 0 then c.place + 1 else place) rest c)
act code (Some (instr.Tick unit line)) c = ticking c.left c (go_on c.frame.operands)
act code (Some (instr.Call function count)) c =
    with_many count c.frame.operands (λ words rest.
    ticking c.left c (entered code (slice_get code.functions function) words rest))
act code (Some (instr.Library call count)) c =
    with_many count c.frame.operands (λ words rest.
    ticking c.left c (λ d. library_done code (library_does call words d.done.memory) rest d))
act code (Some (instr.Mpi call count second)) c =
    with_many count c.frame.operands (λ words rest. mpi_tick code c.left c.answers (call_of call words second) rest c)
act code (Some instr.Return) c = with_top c.frame.operands (λ word rest. left_to word c.callers (at_place c.place rest c))

-- goes on from where a step leads
abbrev pub follow : Moved → (Config → Moved) → Moved
follow (Went c) next = next c
follow (Stopped stop c) next = Stopped stop c
follow Stuck next = Stuck

-- The instruction at the machine's place.
abbrev pub one_step : Code → Config → Moved
one_step code c = act code (slice_get code.instrs c.place) c

-- at most so many instructions
abbrev pub exec : Code → ℕ → Config → Moved
exec code zero c = Went c
exec code (suc n) c = follow (one_step code c) (exec code n)

-- The machine before its first instruction, the call of `main`: with these words to call it with.
abbrev pub start : Memory → List ℕ → ℕ → List Answer → Config
start m words left answers =
    record {
      place = 0;
      frame = record { back = 0; start = stack_start; finish = stack_start; operands = reverse words };
      callers = [];
      done = nothing_done m;
      left = left;
      answers = answers;
    }

-- The machine stops after finitely many instructions: so, with this done.
pub record Stops (code : Code) (c : Config) (stop : Stop) (done : Done) : Type 0 where
  pub instructions : ℕ
  pub last : Config
  pub reached : exec code instructions c ≡ Stopped stop last
  pub done_is : last.done ≡ done

-- the machine with other ticks and answers left
abbrev pub given : ℕ → List Answer → Config → Config
given left answers c = record c { left = left; answers = answers }

-- The machine goes on from here: whatever ticks it may take and whatever answers come, it stops after finitely many
-- instructions, and is never stuck.
pub record Goes (code : Code) (c : Config) : Type 0 where
  pub stops : (left : ℕ) (answers : List Answer) → (stop : Stop) × (done : Done) × Stops code (given left answers c) stop done
