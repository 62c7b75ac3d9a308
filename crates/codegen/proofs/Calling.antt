-- The machine runs backward over calls: of the library, of MPI and of functions, and over a return.
use Rattle.std.proofs.Common.{◌≡◌, ◌⊎◌, inl, inr, ℕ, zero, suc, ◌+◌, ◌-◌, ◌≤◌, ◌<◌, Bool, true, false, not, List, [], ◌∷◌, length, sym, ap, ◌∙◌, subst, arith}
use Rattle.std.specs.Prelude.{slice_get, nat_le, nat_lt, if◌then◌else◌, Some}
use Rattle.std.proofs.lemmas.Bool.{le-leb, lt-leb}
use Rattle.std.proofs.lemmas.Bool.Decides.{leb_tells}
use Rattle.std.proofs.lemmas.List.{length-take-le}
use Rattle.am_base.specs.declared.traps.TrapCause.TheVariants.{TextLimit, DataStack, CallDepth}
use Rattle.am_base.specs.declared.calls.LibCall.{LibCall}
use Rattle.am_base.specs.declared.calls.MpiCall.{MpiCall}
use Rattle.rank_range.specs.Areas.{Memory}
use Rattle.rank_range.specs.Layout.{range_bytes, stack_start}
use Rattle.rank_range.specs.Kinds.{word_of, value_of}
use Rattle.rank_range.specs.declared.kinds.Kind.TheVariants as kind
use Rattle.mpi_types.specs.declared.call.Answer.{Answer}
use Rattle.mpi_types.specs.declared.call.Answer.TheVariants.{Half, Value, Trap, End}
use Rattle.vm_code.specs.declared.code.Code.{Code}
use Rattle.vm_code.specs.declared.code.Function.{Function}
use Rattle.vm_code.specs.declared.instr.Instr.TheVariants as instr
use Rattle.vm_code.specs.Memory.{stack_top, with_frame, with_arguments, written_all, cut_to}
use Rattle.vm_code.specs.Stops.{Paused, Ended, Trapped, Done, asked, with_ticks, fits_text, printed}
use Rattle.vm_code.specs.Library.{LibraryDone, Does as Gives, Fails, Exits, library_does}
use Rattle.vm_code.specs.Machine as machine
use Rattle.vm_code.specs.Machine.{Config, Frame, Went, Stopped, Stuck, Stops, operand_limit, call_limit, act, one_step, go_on, at_place, ticking, mpi_tick as machine_tick, answered, entered, call_of}
use Rattle.c_model.specs.Outcome.{Rest, Here, tick, traps, with_memory, set_memory, stops}
use Rattle.c_model.specs.Calls.{library_done, library_call, mpi_tick, mpi_call}
use Rattle.c_model.specs.Statements.{left_frame}
use Rattle.codegen.proofs.Keeping.{KeepsTop, library_keeps, written_keeps, arguments_keep, frame_tops}
use Rattle.codegen.proofs.Running.{Standing, at, Does, Told, onto, many, goes, went, stopped, stepped}

-- what ends the rank with a word as an int
abbrev pub ended : ℕ → Rest
ended word = stops (Ended (value_of kind.Int word))

too_far_by : (a b : ℕ) → ((nat_le a b ≡ true) × (a ≤ b)) ⊎ ((nat_le a b ≡ false) × (b < a)) → nat_lt b a ≡ not (nat_le a b)
too_far_by a b (inl (e, le)) = lt-leb (suc b) a (omega (arith, le)) ∙ ap not (sym e)
too_far_by a b (inr (e, lt)) = le-leb (suc b) a lt ∙ ap not (sym e)

pub too_far : (a b : ℕ) → nat_lt b a ≡ not (nat_le a b)
too_far a b = too_far_by a b (leb_tells a b)

module _ (code : Code) (s : Standing) where
  pub does_library : (call : LibCall) (words : List ℕ) (place : ℕ) (stack : List ℕ) (most : ℕ) (here : Here) (next : ℕ → Rest)
      → slice_get code.instrs place ≡ Some (instr.Library call (length words)) → Told code place here → length stack < operand_limit
      → ((x : ℕ) → Does code s (place + 1) (x ∷ stack) most (next x)) → Does code s place (onto words stack) most (library_call call words here next)
  unfolding act
  does_library call words place stack most here next is told fits d = record { by = turn }
    where
      printing_way : (n : ℕ) (answers : List Answer) (done : Done) → n ≤ most → (value : ℕ) (text : List ℕ) (m : Memory) → stack_top m ≡ s.finish → (before : Done) (left : ℕ) (b : Bool)
          → one_step code (at s place (onto words stack) left answers before) ≡ (if b
          then go_on (value ∷ stack) (machine.with_memory m (at s place (onto words stack) n answers (printed done text)))
          else machine.trapped code TextLimit stack (at s place (onto words stack) n answers done))
          → Stops code (at s place (onto words stack) left answers before)
          (if b then set_memory m (next value) n answers (printed done text) else traps TextLimit here n answers done).stop
          (if b then set_memory m (next value) n answers (printed done text) else traps TextLimit here n answers done).done
      printing_way n answers done le value text m top before left true e =
          went code _ _ _ _ (e ∙ goes (value ∷ stack) (machine.with_memory m (at s place (onto words stack) n answers (printed done text))) (omega (arith, fits)))
          ((d value).by n answers _ le top)
      printing_way n answers done le value text m top before left false e = stopped code _ _ _
          (e ∙ ap (λ p. Stopped (Trapped TextLimit p.unit p.line) (at s place stack n answers done)) told)

      way : (n : ℕ) (answers : List Answer) (done : Done) → n ≤ most → stack_top done.memory ≡ s.finish → (before : Done) (left : ℕ) (r : LibraryDone)
          → KeepsTop done.memory r
          → one_step code (at s place (onto words stack) left answers before) ≡ machine.library_done code r stack (at s place (onto words stack) n answers done)
          → Stops code (at s place (onto words stack) left answers before)
          (library_done r here next n answers done).stop (library_done r here next n answers done).done
      way n answers done le top before left (Gives value text m) keeps e =
          printing_way n answers done le value text m (keeps ∙ top) before left (fits_text done text) e
      way n answers done le top before left (Fails cause) keeps e = stopped code _ _ _
          (e ∙ ap (λ p. Stopped (Trapped cause p.unit p.line) (at s place stack n answers done)) told)
      way n answers done le top before left (Exits status) keeps e = stopped code _ _ _ e

      turn : (n : ℕ) (answers : List Answer) (done : Done) → n ≤ most → stack_top done.memory ≡ s.finish
          → Stops code (at s place (onto words stack) n answers done)
          (library_call call words here next n answers done).stop (library_call call words here next n answers done).done
      turn zero answers done le top =
          stopped code _ _ Paused (stepped code s (instr.Library call (length words)) place (onto words stack) zero answers done is
          ∙ many words stack (λ ws rest. ticking zero (at s place (onto words stack) zero answers done)
          (λ c. machine.library_done code (library_does call ws c.done.memory) rest c)))
      turn (suc n) answers done le top =
          way n answers (with_ticks done) (omega (arith, le)) top done (suc n) (library_does call words done.memory) (library_keeps call words done.memory)
          (stepped code s (instr.Library call (length words)) place (onto words stack) (suc n) answers done is
          ∙ many words stack (λ ws rest. ticking (suc n) (at s place (onto words stack) (suc n) answers done)
          (λ c. machine.library_done code (library_does call ws c.done.memory) rest c)))

  -- the second tick of a call of MPI, and further ones there
  pub does_second : (call : MpiCall) (words : List ℕ) (place : ℕ) (stack : List ℕ) (most : ℕ) (here : Here) (next : ℕ → Rest)
      → slice_get code.instrs place ≡ Some (instr.Mpi call (length words) true) → Told code place here → length stack < operand_limit
      → ((x : ℕ) → Does code s (place + 1) (x ∷ stack) most (next x)) → Does code s place (onto words stack) most (mpi_tick true call words here next)
  unfolding act
  does_second call words place stack most here next is told fits d = record { by = turn }
    where
      step : (n : ℕ) (answers : List Answer) (done : Done) → one_step code (at s place (onto words stack) n answers done)
          ≡ machine_tick code n answers (call_of call words true) stack (at s place (onto words stack) n answers done)
      step n answers done =
          stepped code s (instr.Mpi call (length words) true) place (onto words stack) n answers done is
          ∙ many words stack (λ ws rest. machine_tick code n answers (call_of call ws true) rest (at s place (onto words stack) n answers done))

      turn : (n : ℕ) (answers : List Answer) (done : Done) → n ≤ most → stack_top done.memory ≡ s.finish
          → Stops code (at s place (onto words stack) n answers done)
          (mpi_tick true call words here next n answers done).stop (mpi_tick true call words here next n answers done).done
      turn zero answers done le top = stopped code _ _ _ (step zero answers done)
      turn (suc n) [] done le top = stopped code _ _ _ (step (suc n) [] done)
      turn (suc n) (Half ∷ answers) done le top =
          went code _ _ _ _ (step (suc n) (Half ∷ answers) done) (turn n answers (asked done (call_of call words true)) (omega (arith, le)) top)
      turn (suc n) (Value result writes ∷ answers) done le top =
          let asked_done : Done = asked done (call_of call words true) in
          went code _ _ _ _ (step (suc n) (Value result writes ∷ answers) done
          ∙ ap (λ (b : Bool). if b then Went (at s (place + 1) (word_of result ∷ stack) n answers (record asked_done { memory = written_all done.memory writes })) else Stuck)
          (le-leb (suc (length stack)) operand_limit fits))
          ((d (word_of result)).by n answers _ (omega (arith, le)) (written_keeps done.memory writes ∙ top))
      turn (suc n) (Trap cause ∷ answers) done le top = stopped code _ _ _ (step (suc n) (Trap cause ∷ answers) done
          ∙ ap (λ p. Stopped (Trapped cause p.unit p.line) (at s place stack n answers (asked done (call_of call words true)))) told)
      turn (suc n) (End status ∷ answers) done le top = stopped code _ _ _ (step (suc n) (End status ∷ answers) done)

  pub does_mpi : (call : MpiCall) (words : List ℕ) (place : ℕ) (stack : List ℕ) (most : ℕ) (here : Here) (next : ℕ → Rest)
      → slice_get code.instrs place ≡ Some (instr.Mpi call (length words) false) → Told code place here
      → slice_get code.instrs (place + 1) ≡ Some (instr.Mpi call (length words) true) → Told code (place + 1) here → length stack < operand_limit
      → ((x : ℕ) → Does code s (place + 2) (x ∷ stack) most (next x)) → Does code s place (onto words stack) most (mpi_call call words here next)
  unfolding act
  does_mpi call words place stack most here next is told then_is then_told fits d = record { by = turn }
    where
      step : (n : ℕ) (answers : List Answer) (done : Done) → one_step code (at s place (onto words stack) n answers done)
          ≡ machine_tick code n answers (call_of call words false) stack (at s place (onto words stack) n answers done)
      step n answers done =
          stepped code s (instr.Mpi call (length words) false) place (onto words stack) n answers done is
          ∙ many words stack (λ ws rest. machine_tick code n answers (call_of call ws false) rest (at s place (onto words stack) n answers done))

      second : Does code s (place + 1) (onto words stack) most (mpi_tick true call words here next)
      second =
          let e : place + 2 ≡ place + 1 + 1 = omega arith in
          does_second call words (place + 1) stack most here next then_is then_told fits
          (λ x. subst (λ p. Does code s p (x ∷ stack) most (next x)) e (d x))

      turn : (n : ℕ) (answers : List Answer) (done : Done) → n ≤ most → stack_top done.memory ≡ s.finish
          → Stops code (at s place (onto words stack) n answers done)
          (mpi_call call words here next n answers done).stop (mpi_call call words here next n answers done).done
      turn zero answers done le top = stopped code _ _ _ (step zero answers done)
      turn (suc n) [] done le top = stopped code _ _ _ (step (suc n) [] done)
      turn (suc n) (Half ∷ answers) done le top =
          went code _ _ _ _ (step (suc n) (Half ∷ answers) done) (second.by n answers (asked done (call_of call words false)) (omega (arith, le)) top)
      turn (suc n) (Value result writes ∷ answers) done le top =
          let asked_done : Done = asked done (call_of call words false) in
          went code _ _ _ _ (step (suc n) (Value result writes ∷ answers) done
          ∙ ap (λ (b : Bool). if b then Went (at s (place + 2) (word_of result ∷ stack) n answers (record asked_done { memory = written_all done.memory writes })) else Stuck)
          (le-leb (suc (length stack)) operand_limit fits))
          ((d (word_of result)).by n answers _ (omega (arith, le)) (written_keeps done.memory writes ∙ top))
      turn (suc n) (Trap cause ∷ answers) done le top = stopped code _ _ _ (step (suc n) (Trap cause ∷ answers) done
          ∙ ap (λ p. Stopped (Trapped cause p.unit p.line) (at s place stack n answers (asked done (call_of call words false)))) told)
      turn (suc n) (End status ∷ answers) done le top = stopped code _ _ _ (step (suc n) (End status ∷ answers) done)

  -- ---- functions

  -- a function is entered: its frame lies at the top of the data stack, and the call waits for it
  abbrev pub inside : Function → ℕ → List ℕ → ℕ → Standing
  inside function place stack top = record {
    back = place + 1;
    start = top;
    finish = top + function.frame;
    callers = record { back = s.back; start = s.start; finish = s.finish; operands = stack } ∷ s.callers;
  }

  -- what entering a function does in a run
  abbrev pub enters : Function → List ℕ → Here → (ℕ → Rest) → Rest
  enters function words here body = tick (with_memory (λ m.
      if nat_le (stack_top m + function.frame) range_bytes
      then set_memory (with_arguments function.parameters words (stack_top m) (with_frame m function.frame)) (body (stack_top m))
      else traps DataStack here))

  -- A call, from what was done before it. The function runs where its frame lies on top of what was there.
  pub stops_call : (number : ℕ) (function : Function) (words : List ℕ) (place : ℕ) (stack : List ℕ) (here : Here) (body : ℕ → Rest)
      → slice_get code.instrs place ≡ Some (instr.Call number (length words)) → slice_get code.functions number ≡ Some function
      → Told code place here → length s.callers < call_limit → (n : ℕ) (answers : List Answer) (done : Done)
      → ((less : ℕ) → less < n → Does code (inside function place stack (stack_top done.memory)) function.place [] less (body (stack_top done.memory)))
      → Stops code (at s place (onto words stack) n answers done) (enters function words here body n answers done).stop (enters function words here body n answers done).done
  unfolding act
  stops_call number function words place stack here body is function_is told shallow = turn
    where
      tops : (done : Done) → stack_top (with_arguments function.parameters words (stack_top done.memory) (with_frame done.memory function.frame))
          ≡ stack_top done.memory + function.frame
      tops done = arguments_keep function.parameters words (stack_top done.memory) (with_frame done.memory function.frame) ∙ frame_tops done.memory function.frame

      way : (n : ℕ) (answers : List Answer) (done : Done) → Does code (inside function place stack (stack_top done.memory)) function.place [] n (body (stack_top done.memory))
          → (before : Done) (left : ℕ) (b : Bool)
          → one_step code (at s place (onto words stack) left answers before) ≡ (if not b then machine.trapped code DataStack stack (at s place (onto words stack) n answers done)
          else Went (at (inside function place stack (stack_top done.memory)) function.place [] n answers
          (record done { memory = with_arguments function.parameters words (stack_top done.memory) (with_frame done.memory function.frame) })))
          → Stops code (at s place (onto words stack) left answers before)
          ((if b then set_memory (with_arguments function.parameters words (stack_top done.memory) (with_frame done.memory function.frame)) (body (stack_top done.memory))
          else traps DataStack here) n answers done).stop
          ((if b then set_memory (with_arguments function.parameters words (stack_top done.memory) (with_frame done.memory function.frame)) (body (stack_top done.memory))
          else traps DataStack here) n answers done).done
      way n answers done d before left true e = went code _ _ _ _ e (d.by n answers _ (omega arith) (tops done))
      way n answers done d before left false e = stopped code _ _ _
          (e ∙ ap (λ p. Stopped (Trapped DataStack p.unit p.line) (at s place stack n answers done)) told)

      step : (n : ℕ) (answers : List Answer) (done : Done) → one_step code (at s place (onto words stack) n answers done)
          ≡ ticking n (at s place (onto words stack) n answers done) (entered code (Some function) words stack)
      step n answers done =
          stepped code s (instr.Call number (length words)) place (onto words stack) n answers done is
          ∙ many words stack (λ ws rest. ticking n (at s place (onto words stack) n answers done) (entered code (slice_get code.functions number) ws rest))
          ∙ ap (λ f. ticking n (at s place (onto words stack) n answers done) (entered code f words stack)) function_is

      turn : (n : ℕ) (answers : List Answer) (done : Done)
          → ((less : ℕ) → less < n → Does code (inside function place stack (stack_top done.memory)) function.place [] less (body (stack_top done.memory)))
          → Stops code (at s place (onto words stack) n answers done) (enters function words here body n answers done).stop (enters function words here body n answers done).done
      turn zero answers done d = stopped code _ _ Paused (step zero answers done)
      turn (suc n) answers done d =
          let top : ℕ = stack_top done.memory in
          let deep : nat_le call_limit (length s.callers) ≡ false = lt-leb call_limit (length s.callers) shallow in
          way n answers (with_ticks done) (d n (omega arith)) done (suc n) (nat_le (top + function.frame) range_bytes)
          (step (suc n) answers done
          ∙ ap (λ (b : Bool). if b then machine.trapped code CallDepth stack (at s place (onto words stack) n answers (with_ticks done))
          else (if nat_lt range_bytes (top + function.frame) then machine.trapped code DataStack stack (at s place (onto words stack) n answers (with_ticks done))
          else Went (at (inside function place stack top) function.place [] n answers
          (record (with_ticks done) { memory = with_arguments function.parameters words top (with_frame done.memory function.frame) })))) deep
          ∙ ap (λ (b : Bool). if b then machine.trapped code DataStack stack (at s place (onto words stack) n answers (with_ticks done))
          else Went (at (inside function place stack top) function.place [] n answers
          (record (with_ticks done) { memory = with_arguments function.parameters words top (with_frame done.memory function.frame) })))
          (too_far (top + function.frame) range_bytes))

-- `main` returns: the rank ends
pub does_return : (code : Code) (s : Standing) (caller : Frame) (x place : ℕ) (stack : List ℕ) (most : ℕ)
    → s.callers ≡ caller ∷ [] → slice_get code.instrs place ≡ Some instr.Return
    → Does code s place (x ∷ stack) most (left_frame caller.finish ended x)
unfolding act
does_return code s caller x place stack most main is = record {
  by = λ n answers done le top. stopped code _ _ _ (stepped code s instr.Return place (x ∷ stack) n answers done is
      ∙ ap (λ callers. machine.left_to x callers (at s place stack n answers done)) main);
}

-- The call that waits: where it goes on when the one in which code runs returns.
abbrev pub resumed : Frame → List Frame → Standing
resumed caller callers = record { back = caller.back; start = caller.start; finish = caller.finish; callers = callers }

cut_long : (m : Memory) (top : ℕ) → stack_start ≤ top → top ≤ stack_top m → stack_top (cut_to m top) ≡ top
unfolding cut_to
cut_long m top low high =
    let e = length-take-le (top - stack_start) m.areas.stack (omega (arith, low, high)) in
    omega (arith, e, low, high)

-- a function returns to a call that waits
pub does_leave : (code : Code) (s : Standing) (caller other : Frame) (others : List Frame) (x place : ℕ) (stack : List ℕ) (most : ℕ) (next : ℕ → Rest)
    → s.callers ≡ caller ∷ other ∷ others → slice_get code.instrs place ≡ Some instr.Return → stack_start ≤ caller.finish → caller.finish ≤ s.finish
    → length caller.operands < operand_limit
    → Does code (resumed caller (other ∷ others)) s.back (x ∷ caller.operands) most (next x)
    → Does code s place (x ∷ stack) most (left_frame caller.finish next x)
unfolding act
does_leave code s caller other others x place stack most next callers is low high fits d = record {
  by = λ n answers done le top.
      let back = resumed caller (other ∷ others) in
      let left = cut_to done.memory caller.finish in
      went code _ _ _ _ (stepped code s instr.Return place (x ∷ stack) n answers done is
      ∙ ap (λ callers. machine.left_to x callers (at s place stack n answers done)) callers
      ∙ ap (λ (b : Bool). if b then Went (at back s.back (x ∷ caller.operands) n answers (record done { memory = left })) else Stuck)
      (le-leb (suc (length caller.operands)) operand_limit fits))
      (d.by n answers (record done { memory = left }) le (cut_long done.memory caller.finish low (omega (arith, high, top))));
}

-- a call where as many wait as may
pub does_deep : (code : Code) (s : Standing) (number : ℕ) (words : List ℕ) (place : ℕ) (stack : List ℕ) (most : ℕ) (here : Here) (function : Function)
    → slice_get code.instrs place ≡ Some (instr.Call number (length words)) → slice_get code.functions number ≡ Some function
    → Told code place here → call_limit ≤ length s.callers → Does code s place (onto words stack) most (tick (traps CallDepth here))
unfolding act
does_deep code s number words place stack most here function is function_is told deep = record { by = turn }
  where
    step : (n : ℕ) (answers : List Answer) (done : Done) → one_step code (at s place (onto words stack) n answers done)
        ≡ ticking n (at s place (onto words stack) n answers done) (entered code (Some function) words stack)
    step n answers done =
        stepped code s (instr.Call number (length words)) place (onto words stack) n answers done is
        ∙ many words stack (λ ws rest. ticking n (at s place (onto words stack) n answers done) (entered code (slice_get code.functions number) ws rest))
        ∙ ap (λ f. ticking n (at s place (onto words stack) n answers done) (entered code f words stack)) function_is

    turn : (n : ℕ) (answers : List Answer) (done : Done) → n ≤ most → stack_top done.memory ≡ s.finish
        → Stops code (at s place (onto words stack) n answers done) (tick (traps CallDepth here) n answers done).stop (tick (traps CallDepth here) n answers done).done
    turn zero answers done le top = stopped code _ _ Paused (step zero answers done)
    turn (suc n) answers done le top =
        let past : nat_le call_limit (length s.callers) ≡ true = le-leb call_limit (length s.callers) deep in
        stopped code _ _ _ (step (suc n) answers done
        ∙ ap (λ (b : Bool). if b then machine.trapped code CallDepth stack (at s place (onto words stack) n answers (with_ticks done))
        else (if nat_lt range_bytes (stack_top done.memory + function.frame) then machine.trapped code DataStack stack (at s place (onto words stack) n answers (with_ticks done))
        else Went (at (inside code s function place stack (stack_top done.memory)) function.place [] n answers
        (record (with_ticks done) { memory = with_arguments function.parameters words (stack_top done.memory) (with_frame done.memory function.frame) })))) past
        ∙ ap (λ p. Stopped (Trapped CallDepth p.unit p.line) (at s place stack n answers (with_ticks done))) told)
