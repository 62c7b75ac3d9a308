-- A machine that waits at a call of MPI, and what its tick there does.
use Rattle.std.proofs.Common.{ℕ, zero, suc, ◌≡◌, ◌+◌, inl, inr, Bool, true, false, List, [], ◌∷◌, length, refl, sym, ap, ◌∙◌, arith, Option, Some, None}
use Rattle.std.proofs.lemmas.Bool.{cases_Bool}
use Rattle.std.specs.Prelude.{ℤ, nat_le, nat_lt, if◌then◌else◌, slice_get, Result, Ok, Err, reverse, take, drop}
use Rattle.am_base.specs.declared.traps.TrapCause.{TrapCause}
use Rattle.am_base.specs.declared.traps.TrapCause.TheVariants.{CallDepth, DataStack, TextLimit}
use Rattle.rank_range.specs.Layout.{range_bytes, globals_start}
use Rattle.rank_range.specs.Operators.{operate_one}
use Rattle.rank_range.specs.Kinds.{word_of, extended}
use Rattle.vm_code.specs.Memory.{stack_top, written_all, address_of, stored, copied}
use Rattle.vm_code.specs.Library.{LibraryDone, Does, Fails, Exits, library_does}
use Rattle.rank_range.specs.Areas.{Memory}
use Rattle.mpi_types.specs.declared.call.Answer.{Answer}
use Rattle.mpi_types.specs.declared.call.Answer.TheVariants.{Half, Value, Trap, End}
use Rattle.mpi_types.specs.declared.call.Call.{Call}
use Rattle.vm_code.specs.declared.code.Code.{Code}
use Rattle.vm_code.specs.declared.code.Function.{Function}
use Rattle.vm_code.specs.declared.instr.Instr.{Instr}
use Rattle.vm_code.specs.declared.instr.Instr.TheVariants as instr
use Rattle.vm_code.specs.Stops.{Stop, Paused, Waits, Ended, Done, asked, printed, fits_text, with_ticks}
use Rattle.vm_code.specs.Laws.{StaysStopped}
use Rattle.vm_code.specs.Machine.{Frame, Config, Moved, Went, Stopped, Stuck, Stops, exec, follow, one_step, act, given, go_on, trapped, with_result, reading, writing, with_top, with_two, with_many, entered, left_to, library_done, mpi_tick, answered, call_of, with_memory, call_limit, at_place, behind_call, operand_limit}
use Rattle.rank_steps.specs.Steps.{WaitsAt, GoesBy, StopsBy}

-- ---- one way to stop

abbrev stop_in : Stop → Moved → Stop
stop_in other (Stopped stop c) = stop
stop_in other (Went c) = other
stop_in other Stuck = other

abbrev done_in : Done → Moved → Done
done_in other (Stopped stop c) = c.done
done_in other (Went c) = c.done
done_in other Stuck = other

pub one_stop : StaysStopped → (code : Code) (c : Config) (s t : Stop) (d e : Done) → Stops code c s d → Stops code c t e → (s ≡ t) × (d ≡ e)
one_stop stays code c s t d e first second =
    let j = first.instructions in
    let k = second.instructions in
    let same : Stopped s first.last ≡ Stopped t second.last =
    sym (stays code c first.last s j (j + k) first.reached (omega arith))
    ∙ stays code c second.last t k (j + k) second.reached (omega arith) in
    (ap (stop_in s) same, sym first.done_is ∙ ap (done_in d) same ∙ second.done_is)

-- a machine that stops at its next instruction
pub stops_at_once : (code : Code) (c last : Config) (stop : Stop) → one_step code c ≡ Stopped stop last → Stops code c stop last.done
stops_at_once code c last stop e = record {
  instructions = 1;
  last = last;
  reached = ap (λ m. follow m (exec code 0)) e;
  done_is = refl;
}

-- behind an instruction the machine stops as it does from there
pub stops_behind : (code : Code) (c d : Config) (stop : Stop) (done : Done) → one_step code c ≡ Went d → Stops code c stop done → Stops code d stop done
stops_behind code c d stop done e stops = by stops.instructions stops.reached
  where
    by : (n : ℕ) → exec code n c ≡ Stopped stop stops.last → Stops code d stop done
    by zero is = absurd (cc (is))
    by (suc n) is = record {
      instructions = n;
      last = stops.last;
      reached = sym (ap (λ m. follow m (exec code n)) e) ∙ is;
      done_is = stops.done_is;
    }

-- ---- what doesn't wait at a call

abbrev IsOther : Moved → Type 0
IsOther m = (call : Call) (d : Config) → m ≡ Stopped (Waits call) d → ⊥

went_other : (c : Config) → IsOther (Went c)
went_other c call d e = absurd (cc (e))

stuck_other : IsOther Stuck
stuck_other call d e = absurd (cc (e))

ended_other : (status : ℤ) (c : Config) → IsOther (Stopped (Ended status) c)
ended_other status c call d e = absurd (cc (e))

trapped_other : (code : Code) (cause : TrapCause) (operands : List ℕ) (c : Config) → IsOther (trapped code cause operands c)
trapped_other code cause operands c call d e = absurd (cc (e))

if_other : (b : Bool) (x y : Moved) → IsOther x → IsOther y → IsOther (if b then x else y)
if_other true x y hx hy = hx
if_other false x y hx hy = hy

go_on_other : (operands : List ℕ) (c : Config) → IsOther (go_on operands c)
go_on_other operands c = if_other (nat_le (length operands) operand_limit) (Went _) Stuck (went_other _) stuck_other

result_other : (code : Code) (r : Result ℕ TrapCause) (operands : List ℕ) (c : Config) → IsOther (with_result code r operands c)
result_other code (Ok word) operands c = go_on_other (word ∷ operands) c
result_other code (Err cause) operands c = trapped_other code cause operands c

reading_other : (code : Code) (o : Option ℕ) (operands : List ℕ) (c : Config) → IsOther (reading code o operands c)
reading_other code None operands c = trapped_other code _ operands c
reading_other code (Some word) operands c = go_on_other (word ∷ operands) c

writing_other : (code : Code) (o : Option Memory) (operands : List ℕ) (c : Config) → IsOther (writing code o operands c)
writing_other code None operands c = trapped_other code _ operands c
writing_other code (Some m) operands c = go_on_other operands (with_memory m c)

top_other : (operands : List ℕ) (next : ℕ → List ℕ → Moved) → ((x : ℕ) (rest : List ℕ) → IsOther (next x rest)) → IsOther (with_top operands next)
top_other [] next h = stuck_other
top_other (x ∷ rest) next h = h x rest

two_other : (operands : List ℕ) (next : ℕ → ℕ → List ℕ → Moved) → ((x y : ℕ) (rest : List ℕ) → IsOther (next x y rest)) → IsOther (with_two operands next)
two_other [] next h = stuck_other
two_other (y ∷ []) next h = stuck_other
two_other (y ∷ x ∷ rest) next h = h x y rest

many_other : (n : ℕ) (operands : List ℕ) (next : List ℕ → List ℕ → Moved) → ((words rest : List ℕ) → IsOther (next words rest))
    → IsOther (with_many n operands next)
many_other n operands next h = if_other (nat_le n (length operands)) (next _ _) Stuck (h _ _) stuck_other

entered_other : (code : Code) (o : Option Function) (words rest : List ℕ) (c : Config) → IsOther (entered code o words rest c)
entered_other code None words rest c = stuck_other
entered_other code (Some function) words rest c = elim (cases_Bool (nat_le call_limit (length c.callers))) [
  | inl deep ↦ rw deep (trapped_other code CallDepth rest c)
  | inr fits ↦ rw fits (elim (cases_Bool (nat_lt range_bytes (stack_top c.done.memory + function.frame))) [
    | inl full ↦ rw full (trapped_other code DataStack rest c)
    | inr room ↦ rw room (went_other _)
  ])
]

left_other : (word : ℕ) (callers : List Frame) (c : Config) → IsOther (left_to word callers c)
left_other word [] c = stuck_other
left_other word (caller ∷ []) c = ended_other _ _
left_other word (caller ∷ other ∷ others) c = if_other _ (Went _) Stuck (went_other _) stuck_other

library_other : (code : Code) (l : LibraryDone) (operands : List ℕ) (c : Config) → IsOther (library_done code l operands c)
library_other code (Does value text m) operands c = elim (cases_Bool (fits_text c.done text)) [
  | inl fits ↦ rw fits (go_on_other (value ∷ operands) (with_memory m (record c { done = printed c.done text })))
  | inr long ↦ rw long (trapped_other code TextLimit operands c)
]
library_other code (Fails cause) operands c = trapped_other code cause operands c
library_other code (Exits status) operands c = ended_other status _

-- ---- a call of MPI

-- The machine's next instruction is a tick of this call of MPI.
pub record IsAtCall (code : Code) (m : Config) (call : Call) : Type 0 where
  pub rest : List ℕ
  pub does : (left : ℕ) (answers : List Answer) → one_step code (given left answers m) ≡ mpi_tick code left answers call rest (given left answers m)

same_call : (made call : Call) (c d : Config) → Stopped (Waits made) c ≡ Stopped (Waits call) d → made ≡ call
same_call made call c d e = cc

many_go : (n : ℕ) (operands : List ℕ) (next : List ℕ → List ℕ → Moved) → nat_le n (length operands) ≡ true
    → with_many n operands next ≡ next (reverse (take n operands)) (drop n operands)
many_go n operands next t = rw t refl

many_stuck : (n : ℕ) (operands : List ℕ) (next : List ℕ → List ℕ → Moved) → nat_le n (length operands) ≡ false
    → with_many n operands next ≡ Stuck
many_stuck n operands next f = rw f refl

act_mpi : (code : Code) (name : _) (count : ℕ) (second : Bool) (c : Config) → act code (Some (instr.Mpi name count second)) c
    ≡ with_many count c.frame.operands (λ words rest. mpi_tick code c.left c.answers (call_of name words second) rest c)
unfolding act
act_mpi code name count second c = refl

at_mpi : (code : Code) (m : Config) (call : Call) (name : _) (count : ℕ) (second : Bool)
    → slice_get code.instrs m.place ≡ Some (instr.Mpi name count second)
    → act code (Some (instr.Mpi name count second)) (given 1 [] m) ≡ Stopped (Waits call) (given 1 [] m) → IsAtCall code m call
at_mpi code m call name count second is waits = elim (cases_Bool (nat_le count (length m.frame.operands))) [
  | inl t ↦
      let words = reverse (take count m.frame.operands) in
      let here : (left : ℕ) (answers : List Answer) → act code (Some (instr.Mpi name count second)) (given left answers m)
      ≡ mpi_tick code left answers (call_of name words second) (drop count m.frame.operands) (given left answers m) =
      λ left answers. act_mpi code name count second (given left answers m)
      ∙ many_go count m.frame.operands (λ words rest. mpi_tick code left answers (call_of name words second) rest (given left answers m)) t in
      let made : call_of name words second ≡ call = same_call _ call (given 1 [] m) (given 1 [] m) (sym (here 1 []) ∙ waits) in
      record {
        rest = drop count m.frame.operands;
        does = λ left answers. ap (λ i. act code i (given left answers m)) is ∙ here left answers
            ∙ ap (λ k. mpi_tick code left answers k (drop count m.frame.operands) (given left answers m)) made;
      }
  | inr f ↦ absurd (stuck_other call (given 1 [] m) (sym (act_mpi code name count second (given 1 [] m)
      ∙ many_stuck count m.frame.operands (λ words rest. mpi_tick code 1 [] (call_of name words second) rest (given 1 [] m)) f) ∙ waits))
]

abbrev ticked_once : Config → Config
ticked_once m = record (given 1 [] m) { done = with_ticks m.done; left = 0 }

-- Nothing but a tick of a call of MPI waits at a call.
others_go_on : (code : Code) (m : Config) (call : Call) (i : Option Instr) → slice_get code.instrs m.place ≡ i
    → act code i (given 1 [] m) ≡ Stopped (Waits call) (given 1 [] m) → IsAtCall code m call
unfolding act
others_go_on code m call None is waits = absurd (stuck_other call _ waits)
others_go_on code m call (Some (instr.Push word)) is waits = absurd (go_on_other (word ∷ m.frame.operands) (given 1 [] m) call _ waits)
others_go_on code m call (Some instr.Pop) is waits = absurd (top_other m.frame.operands _ (λ x rest. go_on_other rest (given 1 [] m)) call _ waits)
others_go_on code m call (Some instr.Dup) is waits = absurd (top_other m.frame.operands _ (λ x rest. go_on_other (x ∷ x ∷ rest) (given 1 [] m)) call _ waits)
others_go_on code m call (Some (instr.Local offset)) is waits =
    absurd (go_on_other (address_of m.done.memory (m.frame.start + offset) ∷ m.frame.operands) (given 1 [] m) call _ waits)
others_go_on code m call (Some (instr.Global offset)) is waits =
    absurd (go_on_other (address_of m.done.memory (globals_start + offset) ∷ m.frame.operands) (given 1 [] m) call _ waits)
others_go_on code m call (Some (instr.Load k)) is waits = absurd (top_other m.frame.operands _ (λ x rest. reading_other code _ rest (given 1 [] m)) call _ waits)
others_go_on code m call (Some (instr.Store k)) is waits =
    absurd (two_other m.frame.operands _ (λ x y rest. writing_other code (stored m.done.memory k x y) (y ∷ rest) (given 1 [] m)) call _ waits)
others_go_on code m call (Some (instr.Copy count)) is waits =
    absurd (two_other m.frame.operands _ (λ x y rest. writing_other code (copied m.done.memory x y count) (x ∷ rest) (given 1 [] m)) call _ waits)
others_go_on code m call (Some (instr.Zero count)) is waits =
    absurd (top_other m.frame.operands _ (λ x rest. writing_other code _ rest (given 1 [] m)) call _ waits)
others_go_on code m call (Some (instr.Binary op k)) is waits =
    absurd (two_other m.frame.operands _ (λ x y rest. result_other code _ rest (given 1 [] m)) call _ waits)
others_go_on code m call (Some (instr.Unary op k)) is waits =
    absurd (top_other m.frame.operands _ (λ x rest. go_on_other (operate_one op k x ∷ rest) (given 1 [] m)) call _ waits)
others_go_on code m call (Some (instr.Extend k)) is waits =
    absurd (top_other m.frame.operands _ (λ x rest. go_on_other (extended k x ∷ rest) (given 1 [] m)) call _ waits)
others_go_on code m call (Some (instr.Jump place)) is waits = absurd (went_other _ call _ waits)
others_go_on code m call (Some (instr.JumpIfZero place)) is waits = absurd (top_other m.frame.operands _ (λ x rest. went_other _) call _ waits)
others_go_on code m call (Some (instr.JumpIfNot place)) is waits = absurd (top_other m.frame.operands _ (λ x rest. went_other _) call _ waits)
others_go_on code m call (Some (instr.Tick unit line)) is waits = absurd (go_on_other m.frame.operands (ticked_once m) call _ waits)
others_go_on code m call (Some (instr.Call function count)) is waits =
    absurd (many_other count m.frame.operands _ (λ words rest. entered_other code (slice_get code.functions function) words rest (ticked_once m)) call _ waits)
others_go_on code m call (Some (instr.Library lib count)) is waits =
    absurd (many_other count m.frame.operands _ (λ words rest. library_other code (library_does lib words m.done.memory) rest (ticked_once m)) call _ waits)
others_go_on code m call (Some (instr.Mpi name count second)) is waits = at_mpi code m call name count second is waits
others_go_on code m call (Some instr.Return) is waits = absurd (top_other m.frame.operands _ (λ word rest. left_other word m.callers (at_place m.place rest (given 1 [] m))) call _ waits)

pub at_call : (code : Code) (m : Config) (call : Call) → WaitsAt code m call → IsAtCall code m call
at_call code m call waits = others_go_on code m call (slice_get code.instrs m.place) refl (waits 0)

-- with no tick left the machine is paused there
pub pauses_there : (code : Code) (m : Config) (call : Call) → IsAtCall code m call → one_step code (given 0 [] m) ≡ Stopped Paused (given 0 [] m)
pauses_there code m call at = at.does 0 []

-- ---- the tick counts

went_ticks : (c d : Config) → Went c ≡ Went d → d.done.ticks ≡ c.done.ticks
went_ticks c d e = sym (ap (λ m. (done_in c.done m).ticks) e)

stopped_ticks : (s t : Stop) (c d : Config) → Stopped s c ≡ Stopped t d → d.done.ticks ≡ c.done.ticks
stopped_ticks s t c d e = sym (ap (λ m. (done_in c.done m).ticks) e)

answer_ticks : (code : Code) (a : Answer) (second : Bool) (operands : List ℕ) (c d : Config) → answered code a second operands c ≡ Went d
    → d.done.ticks ≡ c.done.ticks
answer_ticks code Half second operands c d e = went_ticks _ d e
answer_ticks code (Value result writes) second operands c d e = elim (cases_Bool (nat_lt (length operands) operand_limit)) [
  | inl room ↦ went_ticks _ d (sym (room_for room) ∙ e)
  | inr full ↦ absurd (no (sym (none_for full) ∙ e))
]
  where
    no : Stuck ≡ Went d → ⊥
    no e = cc

    room_for : nat_lt (length operands) operand_limit ≡ true → answered code (Value result writes) second operands c
        ≡ Went (at_place (behind_call second c.place) (word_of result ∷ operands) (with_memory (written_all c.done.memory writes) c))
    room_for t = rw t refl

    none_for : nat_lt (length operands) operand_limit ≡ false → answered code (Value result writes) second operands c ≡ Stuck
    none_for f = rw f refl
answer_ticks code (Trap cause) second operands c d e = absurd (cc (e))
answer_ticks code (End status) second operands c d e = absurd (cc (e))

stop_ticks : (code : Code) (a : Answer) (second : Bool) (operands : List ℕ) (c d : Config) (stop : Stop) → answered code a second operands c ≡ Stopped stop d
    → d.done.ticks ≡ c.done.ticks
stop_ticks code Half second operands c d stop e = absurd (cc (e))
stop_ticks code (Value result writes) second operands c d stop e = elim (cases_Bool (nat_lt (length operands) operand_limit)) [
  | inl room ↦ absurd (went_no _ (sym (room_for room) ∙ e))
  | inr full ↦ absurd (no (sym (none_for full) ∙ e))
]
  where
    no : Stuck ≡ Stopped stop d → ⊥
    no e = cc

    went_no : (x : Config) → Went x ≡ Stopped stop d → ⊥
    went_no x e = cc

    room_for : nat_lt (length operands) operand_limit ≡ true → answered code (Value result writes) second operands c
        ≡ Went (at_place (behind_call second c.place) (word_of result ∷ operands) (with_memory (written_all c.done.memory writes) c))
    room_for t = rw t refl

    none_for : nat_lt (length operands) operand_limit ≡ false → answered code (Value result writes) second operands c ≡ Stuck
    none_for f = rw f refl
stop_ticks code (Trap cause) second operands c d stop e = stopped_ticks _ stop _ d e
stop_ticks code (End status) second operands c d stop e = stopped_ticks _ stop _ d e

-- the tick at a call counts, whatever it is answered
pub call_counts : (code : Code) (m new : Config) (call : Call) (a : Answer) → IsAtCall code m call → GoesBy code m a new
    → new.done.ticks ≡ m.done.ticks + 1
call_counts code m new call a at goes =
    answer_ticks code a call.second at.rest (record (given 1 (a ∷ []) m) { done = asked m.done call; left = 0; answers = [] }) (given 0 [] new)
    (sym (at.does 1 (a ∷ [])) ∙ goes 0 [])

pub stop_counts : (code : Code) (m new : Config) (call : Call) (a : Answer) (stop : Stop) → IsAtCall code m call → StopsBy code m a stop new
    → new.done.ticks ≡ m.done.ticks + 1
stop_counts code m new call a stop at stops =
    stop_ticks code a call.second at.rest (record (given 1 (a ∷ []) m) { done = asked m.done call; left = 0; answers = [] }) (given 0 [] new) stop
    (sym (at.does 1 (a ∷ [])) ∙ stops 0 [])
