-- Two rests of a run where one has more ticks and more answers left: each way of putting a rest together keeps how they stand
-- to each other.
use Rattle.std.proofs.Common.{◌≡◌, ℕ, zero, suc, ◌+◌, ◌<◌, ◌≤◌, Bool, true, false, List, [], ◌∷◌, ◌++◌, refl, sym, ◌∙◌, subst, append_assoc, arith}
use Rattle.std.proofs.lemmas.List.{append-nil}
use Rattle.std.specs.Prelude.{ℤ, if◌then◌else◌, nat_eq, Option, None, Some, Result, Ok, Err}
use Rattle.am_base.specs.declared.traps.TrapCause.{TrapCause}
use Rattle.am_base.specs.declared.calls.LibCall.{LibCall}
use Rattle.am_base.specs.declared.calls.MpiCall.{MpiCall}
use Rattle.rank_range.specs.Areas.{Memory}
use Rattle.rank_range.specs.Kinds.{word_of}
use Rattle.mpi_types.specs.declared.call.Call.{Call}
use Rattle.mpi_types.specs.declared.call.Answer.{Answer}
use Rattle.mpi_types.specs.declared.call.Answer.TheVariants.{Half, Value, Trap, End}
use Rattle.vm_code.specs.Memory.{written_all}
use Rattle.vm_code.specs.Library.{LibraryDone, Does, Fails, Exits, library_does}
use Rattle.vm_code.specs.Machine.{call_of}
use Rattle.vm_code.specs.Stops.{Stop, Paused, Waits, Ended, Trapped, Done, with_ticks, asked, fits_text, printed}
use Rattle.c_model.specs.Outcome.{Outcome, Rest, Here, stops, traps, tick, with_memory, set_memory, reading, writing, with_result, choose, printing}
use Rattle.c_model.specs.Calls.{library_done, library_call, mpi_tick, mpi_call}
use Rattle.c_model.specs.Laws.{Begins, Extends}

-- an outcome of a rest with so many ticks left, behind what was done before
pub record Sound (left : ℕ) (before : Done) (o : Outcome) : Type 0 where
  pub begins : Begins before o.done
  pub most : o.done.ticks ≤ before.ticks + left
  pub paused : o.stop ≡ Paused → o.done.ticks ≡ before.ticks + left

-- The second rest, with fewer ticks left than `bound`, and the two of them, where the second one has more.
pub record Joins (more : ℕ) (later : List Answer) (bound : ℕ) (r s : Rest) : Type 0 where
  pub sound : (left : ℕ) (answers : List Answer) (done : Done) → left < bound → Sound left done (s left answers done)
  pub extends : (left all : ℕ) (answers : List Answer) (done : Done) → left + more ≡ all → all < bound
      → Extends more later (r left answers done) (s all (answers ++ later) done)

begins_same : (done : Done) → Begins done done
begins_same done = record { text = ([], sym (append-nil done.text)); made = ([], refl); ticks = omega arith }

same_run : (more : ℕ) (later : List Answer) (o : Outcome) → Extends more later o o
same_run more later o = record { same = λ e. refl; begins = begins_same o.done }

-- ---- a run that stops

sound_stop : (stop : Stop) (left : ℕ) (done : Done) → (stop ≡ Paused → ⊥) → Sound left done (record { stop = stop; done = done })
sound_stop stop left done other = record { begins = begins_same done; most = omega arith; paused = λ e. absurd (other e) }

sound_pause : (done : Done) → Sound 0 done (record { stop = Paused; done = done })
sound_pause done = record { begins = begins_same done; most = omega arith; paused = λ e. omega arith }

ended_is_no_pause : (status : ℤ) → Ended status ≡ Paused → ⊥
ended_is_no_pause status e = cc

trapped_is_no_pause : (cause : TrapCause) (unit line : ℕ) → Trapped cause unit line ≡ Paused → ⊥
trapped_is_no_pause cause unit line e = cc

waits_is_no_pause : (call : Call) → Waits call ≡ Paused → ⊥
waits_is_no_pause call e = cc

-- ---- what was done before a part of a run

behind_tick : (left : ℕ) (done : Done) (o : Outcome) → Sound left (with_ticks done) o → Sound (suc left) done o
behind_tick left done o s =
    let b = s.begins in
    let le = b.ticks in
    let most = s.most in
    record {
      begins = record { text = b.text; made = b.made; ticks = omega (arith, le) };
      most = omega (arith, most);
      paused = λ e. let p = s.paused e in omega (arith, p);
    }

behind_memory : (left : ℕ) (done : Done) (m : Memory) (o : Outcome) → Sound left (record done { memory = m }) o → Sound left done o
behind_memory left done m o s =
    let b = s.begins in
    record { begins = record { text = b.text; made = b.made; ticks = b.ticks }; most = s.most; paused = s.paused }

behind_text : (left : ℕ) (done : Done) (text : List ℕ) (o : Outcome) → Sound left (printed done text) o → Sound left done o
behind_text left done text o s =
    let b = s.begins in
    record {
      begins = record { text = (text ++ b.text.0, b.text.1 ∙ append_assoc done.text text b.text.0); made = b.made; ticks = b.ticks };
      most = s.most;
      paused = s.paused;
    }

behind_call : (left : ℕ) (done : Done) (call : Call) (o : Outcome) → Sound left (asked done call) o → Sound (suc left) done o
behind_call left done call o s =
    let b = s.begins in
    let le = b.ticks in
    let most = s.most in
    record {
      begins = record {
        text = b.text;
        made = (b.made.0 ++ call ∷ [], b.made.1 ∙ sym (append_assoc b.made.0 (call ∷ []) done.made));
        ticks = omega (arith, le);
      };
      most = omega (arith, most);
      paused = λ e. let p = s.paused e in omega (arith, p);
    }

-- a paused run with more ticks
goes_on : (more : ℕ) (later : List Answer) (done : Done) (o : Outcome) → Sound (suc more) done o
    → Extends (suc more) later (record { stop = Paused; done = done }) o
goes_on more later done o s = record { same = λ e. absurd (cc (e)); begins = s.begins }

-- a run that waits, with more answers
hears : (more left : ℕ) (answer : Answer) (later : List Answer) (call : Call) (done : Done) (o : Outcome) → Sound left done o
    → Extends more (answer ∷ later) (record { stop = Waits call; done = done }) o
hears more left answer later call done o s = record { same = λ e. absurd (cc (e)); begins = s.begins }

module _ (more : ℕ) (later : List Answer) where
  -- fewer ticks are left
  pub lower : (bound less : ℕ) (r s : Rest) → less ≤ bound → Joins more later bound r s → Joins more later less r s
  lower bound less r s le j = record {
    sound = λ left answers done lt. j.sound left answers done (omega (arith, le, lt));
    extends = λ left all answers done e lt. j.extends left all answers done e (omega (arith, le, lt));
  }

  joins_stop : (bound : ℕ) (stop : Stop) → (stop ≡ Paused → ⊥) → Joins more later bound (stops stop) (stops stop)
  joins_stop bound stop other = record {
    sound = λ left answers done lt. sound_stop stop left done other;
    extends = λ left all answers done e lt. same_run more later _;
  }

  pub joins_end : (bound : ℕ) (status : ℤ) → Joins more later bound (stops (Ended status)) (stops (Ended status))
  joins_end bound status = joins_stop bound (Ended status) (ended_is_no_pause status)

  pub joins_trap : (bound : ℕ) (cause : TrapCause) (here : Here) → Joins more later bound (traps cause here) (traps cause here)
  joins_trap bound cause here = joins_stop bound (Trapped cause here.unit here.line) (trapped_is_no_pause cause here.unit here.line)

  -- ---- ticks

  sound_tick : (bound : ℕ) (r s : Rest) → Joins more later bound r s → (left : ℕ) (answers : List Answer) (done : Done)
      → left < suc bound → Sound left done (tick s left answers done)
  sound_tick bound r s j zero answers done lt = sound_pause done
  sound_tick bound r s j (suc left) answers done lt =
      behind_tick left done _ (j.sound left answers (with_ticks done) (omega (arith, lt)))

  paused_goes_on : (k bound : ℕ) (r s : Rest) → Joins more later bound r s → (answers : List Answer) (done : Done)
      → k < suc bound → Extends k later (record { stop = Paused; done = done }) (tick s k answers done)
  paused_goes_on zero bound r s j answers done lt = same_run 0 later _
  paused_goes_on (suc k) bound r s j answers done lt =
      goes_on k later done _ (sound_tick bound r s j (suc k) answers done lt)

  extends_tick : (bound : ℕ) (r s : Rest) → Joins more later bound r s → (left all : ℕ) (answers : List Answer) (done : Done)
      → left + more ≡ all → all < suc bound → Extends more later (tick r left answers done) (tick s all (answers ++ later) done)
  extends_tick bound r s j zero all answers done e lt =
      let same : more ≡ all = omega (arith, e) in
      subst (λ t. Extends more later (record { stop = Paused; done = done }) (tick s t (answers ++ later) done)) same
      (paused_goes_on more bound r s j (answers ++ later) done (omega (arith, e, lt)))
  extends_tick bound r s j (suc left) zero answers done e lt = absurd (omega (arith, e))
  extends_tick bound r s j (suc left) (suc all) answers done e lt =
      j.extends left all answers (with_ticks done) (omega (arith, e)) (omega (arith, lt))

  -- a tick gives one more
  pub joins_turn : (bound : ℕ) (r s : Rest) → Joins more later bound r s → Joins more later (suc bound) (tick r) (tick s)
  joins_turn bound r s j = record { sound = sound_tick bound r s j; extends = extends_tick bound r s j }

  pub joins_tick : (bound : ℕ) (r s : Rest) → Joins more later bound r s → Joins more later bound (tick r) (tick s)
  joins_tick bound r s j = lower (suc bound) bound (tick r) (tick s) (omega arith) (joins_turn bound r s j)

  -- ---- memory

  pub joins_memory : (bound : ℕ) (r s : Memory → Rest) → ((m : Memory) → Joins more later bound (r m) (s m))
      → Joins more later bound (with_memory r) (with_memory s)
  joins_memory bound r s j = record {
    sound = λ left answers done lt. (j done.memory).sound left answers done lt;
    extends = λ left all answers done e lt. (j done.memory).extends left all answers done e lt;
  }

  pub joins_set : (bound : ℕ) (m : Memory) (r s : Rest) → Joins more later bound r s
      → Joins more later bound (set_memory m r) (set_memory m s)
  joins_set bound m r s j = record {
    sound = λ left answers done lt. behind_memory left done m _ (j.sound left answers (record done { memory = m }) lt);
    extends = λ left all answers done e lt. j.extends left all answers (record done { memory = m }) e lt;
  }

  pub joins_reading : (bound : ℕ) (o : Option ℕ) (here : Here) (r s : ℕ → Rest) → ((x : ℕ) → Joins more later bound (r x) (s x))
      → Joins more later bound (reading o here r) (reading o here s)
  joins_reading bound None here r s j = joins_trap bound _ here
  joins_reading bound (Some x) here r s j = j x

  pub joins_writing : (bound : ℕ) (o : Option Memory) (here : Here) (r s : Rest) → Joins more later bound r s
      → Joins more later bound (writing o here r) (writing o here s)
  joins_writing bound None here r s j = joins_trap bound _ here
  joins_writing bound (Some m) here r s j = joins_set bound m r s j

  pub joins_result : (bound : ℕ) (o : Result ℕ TrapCause) (here : Here) (r s : ℕ → Rest) → ((x : ℕ) → Joins more later bound (r x) (s x))
      → Joins more later bound (with_result o here r) (with_result o here s)
  joins_result bound (Ok x) here r s j = j x
  joins_result bound (Err cause) here r s j = joins_trap bound cause here

  -- ---- branches

  pub joins_if : (bound : ℕ) (b : Bool) (r s r' s' : Rest) → Joins more later bound r s → Joins more later bound r' s'
      → Joins more later bound (if b then r else r') (if b then s else s')
  joins_if bound true r s r' s' j k = j
  joins_if bound false r s r' s' j k = k

  pub joins_choice : (bound x : ℕ) (r s r' s' : Rest) → Joins more later bound r s → Joins more later bound r' s'
      → Joins more later bound (choose x r r') (choose x s s')
  joins_choice bound x r s r' s' j k = joins_if bound (nat_eq x 0) r' s' r s k j

  sound_if : (b : Bool) (left : ℕ) (done : Done) (o p : Outcome) → Sound left done o → Sound left done p → Sound left done (if b then o else p)
  sound_if true left done o p s t = s
  sound_if false left done o p s t = t

  extends_if : (b : Bool) (o p o' p' : Outcome) → Extends more later o p → Extends more later o' p'
      → Extends more later (if b then o else o') (if b then p else p')
  extends_if true o p o' p' s t = s
  extends_if false o p o' p' s t = t

  pub joins_printing : (bound : ℕ) (text : List ℕ) (here : Here) (r s : Rest) → Joins more later bound r s
      → Joins more later bound (printing text here r) (printing text here s)
  joins_printing bound text here r s j = record {
    sound = λ left answers done lt.
        sound_if (fits_text done text) left done _ _ (behind_text left done text _ (j.sound left answers (printed done text) lt))
        ((joins_trap bound _ here).sound left answers done lt);
    extends = λ left all answers done e lt.
        extends_if (fits_text done text) _ _ _ _ (j.extends left all answers (printed done text) e lt)
        ((joins_trap bound _ here).extends left all answers done e lt);
  }

  -- ---- calls of the library

  joins_library_done : (bound : ℕ) (d : LibraryDone) (here : Here) (r s : ℕ → Rest) → ((x : ℕ) → Joins more later bound (r x) (s x))
      → Joins more later bound (library_done d here r) (library_done d here s)
  joins_library_done bound (Does value text m) here r s j = joins_printing bound text here _ _ (joins_set bound m _ _ (j value))
  joins_library_done bound (Fails cause) here r s j = joins_trap bound cause here
  joins_library_done bound (Exits status) here r s j = joins_end bound status

  pub joins_library : (bound : ℕ) (call : LibCall) (words : List ℕ) (here : Here) (r s : ℕ → Rest)
      → ((x : ℕ) → Joins more later bound (r x) (s x)) → Joins more later bound (library_call call words here r) (library_call call words here s)
  joins_library bound call words here r s j =
      joins_tick bound _ _ (joins_memory bound _ _ (λ m. joins_library_done bound (library_does call words m) here r s j))

  -- ---- calls of MPI

  sound_mpi : (bound : ℕ) (r s : ℕ → Rest) → ((x : ℕ) → Joins more later bound (r x) (s x)) → (second : Bool) (name : MpiCall) (words : List ℕ)
      (here : Here) (left : ℕ) (answers : List Answer) (done : Done) → left < bound → Sound left done (mpi_tick second name words here s left answers done)
  sound_mpi bound r s j second name words here zero answers done lt = sound_pause done
  sound_mpi bound r s j second name words here (suc left) [] done lt = sound_stop (Waits (call_of name words second)) (suc left) done (waits_is_no_pause _)
  sound_mpi bound r s j second name words here (suc left) (Half ∷ answers) done lt =
      behind_call left done _ _ (sound_mpi bound r s j true name words here left answers (asked done (call_of name words second)) (omega (arith, lt)))
  sound_mpi bound r s j second name words here (suc left) (Value result writes ∷ answers) done lt =
      behind_call left done _ _ (behind_memory left _ (written_all done.memory writes) _
      ((j (word_of result)).sound left answers (record (asked done (call_of name words second)) { memory = written_all done.memory writes }) (omega (arith, lt))))
  sound_mpi bound r s j second name words here (suc left) (Trap cause ∷ answers) done lt =
      behind_call left done _ _ (sound_stop _ left (asked done (call_of name words second)) (trapped_is_no_pause cause here.unit here.line))
  sound_mpi bound r s j second name words here (suc left) (End status ∷ answers) done lt =
      behind_call left done _ _ (sound_stop _ left (asked done (call_of name words second)) (ended_is_no_pause status))

  mpi_goes_on : (k bound : ℕ) (r s : ℕ → Rest) → ((x : ℕ) → Joins more later bound (r x) (s x)) → (second : Bool) (name : MpiCall) (words : List ℕ)
      (here : Here) (answers : List Answer) (done : Done) → k < bound
      → Extends k later (record { stop = Paused; done = done }) (mpi_tick second name words here s k answers done)
  mpi_goes_on zero bound r s j second name words here answers done lt = same_run 0 later _
  mpi_goes_on (suc k) bound r s j second name words here answers done lt =
      goes_on k later done _ (sound_mpi bound r s j second name words here (suc k) answers done lt)

  mpi_hears : (ys : List Answer) (bound : ℕ) (r s : ℕ → Rest) → ((x : ℕ) → Joins more later bound (r x) (s x)) → (second : Bool) (name : MpiCall)
      (words : List ℕ) (here : Here) (left : ℕ) (done : Done) → suc left < bound
      → Extends more ys (record { stop = Waits (call_of name words second); done = done }) (mpi_tick second name words here s (suc left) ys done)
  mpi_hears [] bound r s j second name words here left done lt = same_run more [] _
  mpi_hears (y ∷ ys) bound r s j second name words here left done lt =
      hears more (suc left) y ys _ done _ (sound_mpi bound r s j second name words here (suc left) (y ∷ ys) done lt)

  extends_mpi : (bound : ℕ) (r s : ℕ → Rest) → ((x : ℕ) → Joins more later bound (r x) (s x)) → (second : Bool) (name : MpiCall) (words : List ℕ)
      (here : Here) (left all : ℕ) (answers : List Answer) (done : Done) → left + more ≡ all → all < bound
      → Extends more later (mpi_tick second name words here r left answers done) (mpi_tick second name words here s all (answers ++ later) done)
  extends_mpi bound r s j second name words here zero all answers done e lt =
      let same : more ≡ all = omega (arith, e) in
      subst (λ t. Extends more later (record { stop = Paused; done = done }) (mpi_tick second name words here s t (answers ++ later) done)) same
      (mpi_goes_on more bound r s j second name words here (answers ++ later) done (omega (arith, e, lt)))
  extends_mpi bound r s j second name words here (suc left) zero answers done e lt = absurd (omega (arith, e))
  extends_mpi bound r s j second name words here (suc left) (suc all) [] done e lt = mpi_hears later bound r s j second name words here all done lt
  extends_mpi bound r s j second name words here (suc left) (suc all) (Half ∷ answers) done e lt =
      extends_mpi bound r s j true name words here left all answers (asked done (call_of name words second)) (omega (arith, e)) (omega (arith, lt))
  extends_mpi bound r s j second name words here (suc left) (suc all) (Value result writes ∷ answers) done e lt =
      (j (word_of result)).extends left all answers (record (asked done (call_of name words second)) { memory = written_all done.memory writes })
      (omega (arith, e)) (omega (arith, lt))
  extends_mpi bound r s j second name words here (suc left) (suc all) (Trap cause ∷ answers) done e lt = same_run more later _
  extends_mpi bound r s j second name words here (suc left) (suc all) (End status ∷ answers) done e lt = same_run more later _

  pub joins_mpi : (bound : ℕ) (call : MpiCall) (words : List ℕ) (here : Here) (r s : ℕ → Rest)
      → ((x : ℕ) → Joins more later bound (r x) (s x)) → Joins more later bound (mpi_call call words here r) (mpi_call call words here s)
  joins_mpi bound call words here r s j = record {
    sound = sound_mpi bound r s j false call words here;
    extends = extends_mpi bound r s j false call words here;
  }
