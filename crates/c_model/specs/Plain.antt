-- The run of a program once more, as a plain recursion: each construct gives a value with the ticks and answers that are left
-- and what was done then, or it halts the run. A law says that both runs are one.
use Rattle.std.specs.Prelude.{ℕ, zero, suc, ◌+◌, ◌*◌, pos, if◌then◌else◌, nat_eq, nat_le, Bool, true, false, List, [], ◌∷◌, Option, None, Some, Result, Ok, Err}
use Rattle.am_base.specs.declared.traps.TrapCause.{TrapCause}
use Rattle.am_base.specs.declared.traps.TrapCause.TheVariants.{BadAddress, CallDepth, DataStack, TextLimit}
use Rattle.am_base.specs.declared.calls.LibCall.{LibCall}
use Rattle.am_base.specs.declared.calls.MpiCall.{MpiCall}
use Rattle.rank_range.specs.Areas.{Memory}
use Rattle.rank_range.specs.Layout.{stack_start, range_bytes}
use Rattle.rank_range.specs.Kinds.{convert, value_of, word_of}
use Rattle.rank_range.specs.Operators.{operate, operate_one}
use Rattle.rank_range.specs.declared.kinds.Kind.{Kind}
use Rattle.rank_range.specs.declared.kinds.Kind.TheVariants as kind
use Rattle.rank_range.specs.declared.operators.Binary.TheVariants as op
use Rattle.rank_range.specs.declared.run.Segment.{Segment}
use Rattle.mpi_types.specs.declared.call.Answer.{Answer}
use Rattle.mpi_types.specs.declared.call.Answer.TheVariants.{Half, Value as Valued, Trap, End}
use Rattle.vm_code.specs.Memory.{opened, loaded, stored, copied, zeroed, address_of, stack_top, with_frame, with_arguments, cut_to, written_all}
use Rattle.vm_code.specs.Library.{LibraryDone, Does, Fails, Exits as Ends, library_does}
use Rattle.vm_code.specs.Stops.{Stop, Paused, Waits, Ended, Trapped, Done, nothing_done, with_ticks, asked, fits_text, printed}
use Rattle.vm_code.specs.Machine.{call_limit, call_of}
use Rattle.c_types.specs.declared.expression.Operand.TheOpen.{Operand-F, Step-F, Expr-F}
use Rattle.c_types.specs.declared.expression.Expr.{Expr, fold-Expr}
use Rattle.c_types.specs.declared.expression.FullExpr.{FullExpr}
use Rattle.c_types.specs.declared.statement.Stmt.{Stmt, fold-Stmt}
use Rattle.c_types.specs.declared.statement.Stmt.TheOpen.{Stmt-F}
use Rattle.c_types.specs.declared.statement.Declared.{Declared}
use Rattle.c_types.specs.declared.statement.Span.{Span}
use Rattle.c_types.specs.declared.statement.Store.{Store}
use Rattle.c_types.specs.declared.statement.Stored.{Stored}
use Rattle.c_types.specs.declared.statement.Stored.TheVariants.{Number, Structure}
use Rattle.c_types.specs.declared.program.Program.{Program}
use Rattle.c_types.specs.declared.program.Body.{Body}
use Rattle.c_types.specs.declared.program.Main.{Main}
use Rattle.c_model.specs.Outcome.{Outcome, Here}
use Rattle.c_model.specs.Run.{word_plus, word_minus, moved, element, truth_of, negated, counted_kind, next_of, given_of}
use Rattle.c_model.specs.Statements.{target, parameters_of, body_of, place_in, main_words, parameter_count}

-- What something gives, with the ticks and answers that are left and what was done; or the run halts in it.
pub data Out (A : Type 0) : Type 0 where
  Gives : A → ℕ → List Answer → Done → Out A
  Halts : Outcome → Out A

abbrev pub Plain : Type 0 → Type 0
Plain A = ℕ → List Answer → Done → Out A

abbrev pub gives : {A : Type 0} → A → Plain A
gives x left answers done = Gives x left answers done

abbrev pub halts : {A : Type 0} → Stop → Plain A
halts stop left answers done = Halts (record { stop = stop; done = done })

abbrev pub from_there : {A B : Type 0} → Out A → (A → Plain B) → Out B
from_there (Gives x left answers done) next = next x left answers done
from_there (Halts outcome) next = Halts outcome

-- One thing, and then with what it gave the next one.
abbrev pub bind : {A B : Type 0} → Plain A → (A → Plain B) → Plain B
bind first next left answers done = from_there (first left answers done) next

abbrev pub traps : {A : Type 0} → TrapCause → Here → Plain A
traps cause here = halts (Trapped cause here.unit here.line)

abbrev pub tick : Plain (Unit {0})
tick zero answers done = Halts (record { stop = Paused; done = done })
tick (suc left) answers done = Gives tt left answers (with_ticks done)

abbrev pub memory : Plain Memory
memory left answers done = Gives done.memory left answers done

abbrev pub becomes : Memory → Plain (Unit {0})
becomes m left answers done = Gives tt left answers (record done { memory = m })

abbrev pub reading : Option ℕ → Here → Plain ℕ
reading None here = traps BadAddress here
reading (Some word) here = gives word

abbrev pub writing : Option Memory → Here → Plain (Unit {0})
writing None here = traps BadAddress here
writing (Some m) here = becomes m

abbrev pub with_result : Result ℕ TrapCause → Here → Plain ℕ
with_result (Ok word) here = gives word
with_result (Err cause) here = traps cause here

abbrev pub printing : List ℕ → Here → Plain (Unit {0})
printing text here left answers done =
    if fits_text done text then Gives tt left answers (printed done text) else traps TextLimit here left answers done

-- ---- calls of the library and of MPI

abbrev pub library_done : LibraryDone → Here → Plain ℕ
library_done (Does value text m) here = bind (printing text here) (λ x. bind (becomes m) (λ y. gives value))
library_done (Fails cause) here = traps cause here
library_done (Ends status) here = halts (Ended status)

abbrev pub library_call : LibCall → List ℕ → Here → Plain ℕ
library_call call words here = bind tick (λ x. bind memory (λ m. library_done (library_does call words m) here))

abbrev pub mpi_tick : Bool → MpiCall → List ℕ → Here → Plain ℕ
mpi_tick second name words here zero answers done = Halts (record { stop = Paused; done = done })
mpi_tick second name words here (suc left) [] done = Halts (record { stop = Waits (call_of name words second); done = done })
mpi_tick second name words here (suc left) (Half ∷ answers) done =
    mpi_tick true name words here left answers (asked done (call_of name words second))
mpi_tick second name words here (suc left) (Valued result writes ∷ answers) done =
    Gives (word_of result) left answers (record (asked done (call_of name words second)) { memory = written_all done.memory writes })
mpi_tick second name words here (suc left) (Trap cause ∷ answers) done =
    traps cause here left answers (asked done (call_of name words second))
mpi_tick second name words here (suc left) (End status ∷ answers) done =
    halts (Ended status) left answers (asked done (call_of name words second))

-- ---- expressions

abbrev pub Calling : Type 0
Calling = ℕ → List ℕ → Here → Plain ℕ

pub record Surroundings : Type 0 where
  pub calling : Calling
  pub object : ℕ → ℕ

abbrev pub Value : Type 0
Value = Surroundings → Here → Plain ℕ

abbrev pub in_order_of : List Value → Surroundings → Here → Plain (List ℕ)
in_order_of [] around here = gives []
in_order_of (v ∷ vs) around here = bind (v around here) (λ x. bind (in_order_of vs around here) (λ xs. gives (x ∷ xs)))

abbrev pub operand_value : Operand-F Value (ℕ → Value) Value → Value
operand_value (Operand-F.Number word) around here = gives word
operand_value (Operand-F.Local offset) around here = bind memory (λ m. gives (address_of m (here.frame + offset)))
operand_value (Operand-F.Object number) around here = bind memory (λ m. gives (address_of m (around.object number)))
operand_value (Operand-F.Call function args) around here =
    bind (in_order_of args around here) (λ words. around.calling function words here)
operand_value (Operand-F.Library call args) around here = bind (in_order_of args around here) (λ words. library_call call words here)
operand_value (Operand-F.Mpi call args) around here = bind (in_order_of args around here) (λ words. mpi_tick false call words here)

abbrev pub load : Kind → ℕ → Here → Plain ℕ
load k a here = bind memory (λ m. reading (loaded m k a) here)

abbrev pub store : Kind → ℕ → ℕ → Here → Plain (Unit {0})
store k a word here = bind memory (λ m. writing (stored m k a word) here)

-- stores the word, and gives it
abbrev pub kept : Kind → ℕ → ℕ → Here → Plain ℕ
kept k a word here = bind (store k a word here) (λ x. gives word)

abbrev pub step_value : Step-F Value (ℕ → Value) Value → ℕ → Value
step_value (Step-F.Load k) x around here = load k x here
step_value (Step-F.Convert from to) x around here = gives (convert x from to)
step_value (Step-F.Unary o k) x around here = gives (operate_one o k x)
step_value Step-F.Not x around here = gives (negated x)
step_value (Step-F.Member offset) x around here = gives (word_plus x offset)
step_value (Step-F.Binary o k b) x around here = bind (b around here) (λ y. with_result (operate o k x y) here)
step_value (Step-F.Greater k b) x around here = bind (b around here) (λ y. with_result (operate op.Less k y x) here)
step_value (Step-F.AtLeast k b) x around here = bind (b around here) (λ y. with_result (operate op.AtMost k y x) here)
step_value (Step-F.Offset by scale b) x around here = bind (b around here) (λ y. gives (element by scale x y))
step_value (Step-F.Difference size b) x around here =
    bind (b around here) (λ y. with_result (operate op.Divide kind.Long (word_minus x y) size) here)
step_value (Step-F.And b) x around here = if nat_eq x 0 then gives 0 else bind (b around here) (λ y. gives (truth_of y))
step_value (Step-F.Or b) x around here = if nat_eq x 0 then bind (b around here) (λ y. gives (truth_of y)) else gives 1
step_value (Step-F.Conditional b c) x around here = if nat_eq x 0 then c around here else b around here
step_value (Step-F.Comma b) x around here = b around here
step_value (Step-F.Assign k b) x around here = bind (b around here) (λ y. kept k x y here)
step_value (Step-F.Copy size b) x around here =
    bind (b around here) (λ y. bind memory (λ m. bind (writing (copied m x y size) here) (λ z. gives x)))
step_value (Step-F.Update o k at b) x around here =
    bind (load k x here) (λ old. bind (b around here) (λ y. bind (with_result (operate o at (convert old k at) y) here) (λ new.
    kept k x (convert new at k) here)))
step_value (Step-F.Advance direction scale b) x around here =
    bind (load kind.UnsignedLong x here) (λ old. bind (b around here) (λ y.
    kept kind.UnsignedLong x (moved direction old (y * scale)) here))
step_value (Step-F.Count c direction given) x around here =
    bind (load (counted_kind c) x here) (λ old.
    bind (store (counted_kind c) x (next_of c direction old) here) (λ z. gives (given_of given old (next_of c direction old))))

abbrev pub steps_value : List (ℕ → Value) → ℕ → Value
steps_value [] x around here = gives x
steps_value (s ∷ ss) x around here = bind (s x around here) (λ y. steps_value ss y around here)

abbrev pub value_step : Expr-F Value (ℕ → Value) Value → Value
value_step e around here = bind (e.first around here) (λ x. steps_value e.steps x around here)

unfoldable pub value : Expr → Value
value = fold-Expr Value (ℕ → Value) Value operand_value step_value value_step

-- ---- statements

-- How a statement is left: at its end, by `break`, by `continue`, or by `return` with a value.
pub data Left : Type 0 where
  Falls : Left
  Breaks : Left
  Continues : Left
  Returns : ℕ → Left

pub record Frame : Type 0 where
  pub around : Surroundings
  pub start : ℕ
  pub unit : ℕ

abbrev pub Meaning : Type 0
Meaning = Frame → Plain Left

-- a statement as a whole, and from a label in it on
pub record Acts : Type 0 where
  pub whole : Meaning
  pub from : ℕ → Option Meaning

abbrev pub here_at : Frame → ℕ → Here
here_at f line = record { frame = f.start; unit = f.unit; line = line }

abbrev pub evaluated : FullExpr → Frame → ℕ → Plain ℕ
evaluated e f line = value e.expr f.around (here_at f line)

abbrev pub evaluated_if : Option FullExpr → Frame → ℕ → Plain (Unit {0})
evaluated_if None f line = gives tt
evaluated_if (Some e) f line = bind (evaluated e f line) (λ x. gives tt)

abbrev pub holds : ℕ → Bool
holds x = if nat_eq x 0 then false else true

abbrev pub tested : Option FullExpr → Frame → ℕ → Plain Bool
tested None f line = gives true
tested (Some e) f line = bind (evaluated e f line) (λ x. gives (holds x))

abbrev pub without_labels : Meaning → Acts
without_labels whole = record { whole = whole; from = λ label. None }

-- goes on where the statement before was left at its end
abbrev pub go_on : Plain Left → Left → Plain Left
go_on next Falls = next
go_on next Breaks = gives Breaks
go_on next Continues = gives Continues
go_on next (Returns word) = gives (Returns word)

abbrev pub in_order : List Acts → Meaning
in_order [] f = gives Falls
in_order (s ∷ ss) f = bind (s.whole f) (go_on (in_order ss f))

abbrev pub followed_by : Option Meaning → List Acts → Option Meaning → Option Meaning
followed_by None ss otherwise = otherwise
followed_by (Some m) ss otherwise = Some (λ f. bind (m f) (go_on (in_order ss f)))

abbrev pub in_order_from : List Acts → ℕ → Option Meaning
in_order_from [] label = None
in_order_from (s ∷ ss) label = followed_by (s.from label) ss (in_order_from ss label)

abbrev pub first_of : Option Meaning → Option Meaning → Option Meaning
first_of None m = m
first_of (Some m) n = Some m

abbrev pub mapped : (Meaning → Meaning) → Option Meaning → Option Meaning
mapped g None = None
mapped g (Some m) = Some (g m)

-- behind the body of a loop: once more, or out of the loop
abbrev pub behind_body : Plain Left → Left → Plain Left
behind_body again Falls = again
behind_body again Breaks = gives Falls
behind_body again Continues = again
behind_body again (Returns word) = gives (Returns word)

-- At most so many turns: a tick, the test, the body, the step.
abbrev pub turns : ℕ → Plain Bool → Plain Left → Plain (Unit {0}) → Plain Left
turns zero test body step = halts Paused
turns (suc n) test body step =
    bind tick (λ x. bind test (λ b.
    if b then bind body (behind_body (bind step (λ y. turns n test body step))) else gives Falls))

-- Each turn takes a tick, so no more turns begin than there are ticks left.
abbrev pub loop : Plain Bool → Plain Left → Plain (Unit {0}) → Plain Left
loop test body step left = turns (suc left) test body step left

abbrev pub loop_from : Plain Bool → Plain Left → Plain (Unit {0}) → Plain Left → Plain Left
loop_from test body step entered = bind entered (behind_body (bind step (λ y. loop test body step)))

abbrev pub do_turns : ℕ → Plain Bool → Plain Left → Plain Left
do_turns zero test body = halts Paused
do_turns (suc n) test body =
    bind body (behind_body (bind tick (λ x. bind test (λ b. if b then do_turns n test body else gives Falls))))

abbrev pub do_loop : Plain Bool → Plain Left → Plain Left
do_loop test body left = do_turns (suc left) test body left

abbrev pub do_from : Plain Bool → Plain Left → Plain Left → Plain Left
do_from test body entered =
    bind entered (behind_body (bind tick (λ x. bind test (λ b. if b then do_loop test body else gives Falls))))

-- behind the body of a `switch`
abbrev pub behind_switch : Left → Plain Left
behind_switch Falls = gives Falls
behind_switch Breaks = gives Falls
behind_switch Continues = gives Continues
behind_switch (Returns word) = gives (Returns word)

abbrev pub entered_at : Option Meaning → Meaning
entered_at None f = gives Falls
entered_at (Some m) f = bind (m f) behind_switch

abbrev pub switched : Option ℕ → Acts → Meaning
switched None body f = gives Falls
switched (Some label) body f = entered_at (body.from label) f

abbrev pub made_zero : Option Span → Frame → Here → Plain (Unit {0})
made_zero None f here = gives tt
made_zero (Some span) f here = bind memory (λ m. writing (zeroed m (address_of m (f.start + span.offset)) span.size) here)

abbrev pub put : Stored → ℕ → ℕ → Here → Plain (Unit {0})
put (Number k) a word here = store k a word here
put (Structure size) a word here = bind memory (λ m. writing (copied m a word size) here)

abbrev pub stored_in_order : List Store → Frame → ℕ → Plain (Unit {0})
stored_in_order [] f line = gives tt
stored_in_order (s ∷ ss) f line =
    bind memory (λ m. bind (evaluated s.value f line) (λ word.
    bind (put s.stored (address_of m (f.start + s.offset)) word (here_at f line)) (λ x. stored_in_order ss f line)))

abbrev pub declared : Declared → Frame → Plain (Unit {0})
declared d f = bind tick (λ x. bind (made_zero d.zeros f (here_at f d.line)) (λ y. stored_in_order d.stores f d.line))

abbrev pub all_declared : List Declared → Frame → Plain (Unit {0})
all_declared [] f = gives tt
all_declared (d ∷ ds) f = bind (declared d f) (λ x. all_declared ds f)

abbrev pub whole_if : Option Acts → Meaning
whole_if None f = gives Falls
whole_if (Some s) f = s.whole f

abbrev pub from_if : Option Acts → ℕ → Option Meaning
from_if None label = None
from_if (Some s) label = s.from label

abbrev pub returned : Option FullExpr → Frame → ℕ → Plain Left
returned None f line = gives (Returns 0)
returned (Some e) f line = bind (evaluated e f line) (λ x. gives (Returns x))

abbrev pub acts_step : Stmt-F Acts → Acts
acts_step (Stmt-F.Empty line) = without_labels (λ f. bind tick (λ x. gives Falls))
acts_step (Stmt-F.Express line e) = without_labels (λ f. bind tick (λ x. bind (evaluated e f line) (λ y. gives Falls)))
acts_step (Stmt-F.Declare d) = without_labels (λ f. bind (declared d f) (λ x. gives Falls))
acts_step (Stmt-F.Block ss) = record { whole = in_order ss; from = in_order_from ss }
acts_step (Stmt-F.If line e s t) =
    record {
      whole = λ f. bind tick (λ x. bind (evaluated e f line) (λ y. if nat_eq y 0 then whole_if t f else s.whole f));
      from = λ label. first_of (s.from label) (from_if t label);
    }
acts_step (Stmt-F.While line e s) =
    record {
      whole = λ f. bind tick (λ x. loop (tested (Some e) f line) (s.whole f) (gives tt));
      from = λ label. mapped (λ m f. loop_from (tested (Some e) f line) (s.whole f) (gives tt) (m f)) (s.from label);
    }
acts_step (Stmt-F.Do line s e) =
    record {
      whole = λ f. bind tick (λ x. do_loop (tested (Some e) f line) (s.whole f));
      from = λ label. mapped (λ m f. do_from (tested (Some e) f line) (s.whole f) (m f)) (s.from label);
    }
acts_step (Stmt-F.For line ds start test step s) =
    record {
      whole = λ f. bind tick (λ x. bind (all_declared ds f) (λ y. bind (evaluated_if start f line) (λ z.
          loop (tested test f line) (s.whole f) (evaluated_if step f line))));
      from = λ label. mapped (λ m f. loop_from (tested test f line) (s.whole f) (evaluated_if step f line) (m f)) (s.from label);
    }
acts_step (Stmt-F.Switch line e cases default s) =
    without_labels (λ f. bind tick (λ x. bind (evaluated e f line) (λ y. switched (target cases default y) s f)))
acts_step (Stmt-F.Labelled number s) =
    record { whole = s.whole; from = λ label. if nat_eq label number then Some s.whole else s.from label }
acts_step (Stmt-F.Break line) = without_labels (λ f. bind tick (λ x. gives Breaks))
acts_step (Stmt-F.Continue line) = without_labels (λ f. bind tick (λ x. gives Continues))
acts_step (Stmt-F.Return line e) = without_labels (λ f. bind tick (λ x. returned e f line))

unfoldable pub acts : Stmt → Acts
acts = fold-Stmt Acts acts_step

-- ---- functions and programs

-- what a function returns: 0 where it doesn't end by `return`
abbrev pub result_of : Plain ℕ → Left → Plain ℕ
result_of next Falls = next
result_of next Breaks = gives 0
result_of next Continues = gives 0
result_of next (Returns word) = gives word

abbrev pub statements : List Stmt → Frame → Plain ℕ
statements [] f = gives 0
statements (s ∷ ss) f = bind ((acts s).whole f) (result_of (statements ss f))

abbrev pub entered : Option Body → Surroundings → List ℕ → Here → Plain ℕ
entered None around words here = gives 0
entered (Some body) around words here = bind memory (λ m.
    let top : ℕ = stack_top m in
    if nat_le (top + body.frame) range_bytes
    then bind (becomes (with_arguments (parameters_of body.parameters) words top (with_frame m body.frame))) (λ x.
    bind (statements body.stmts (record { around = around; start = top; unit = body.unit })) (λ word.
    bind memory (λ n. bind (becomes (cut_to n top)) (λ y. gives word))))
    else traps DataStack here)

abbrev pub called : Program → (ℕ → ℕ) → ℕ → Calling
called program object zero number words here = bind tick (λ x. traps CallDepth here)
called program object (suc room) number words here =
    bind tick (λ x. entered (body_of program number) (record { calling = called program object room; object = object }) words here)

abbrev pub main_run : Program → Segment → Memory → Option Main → Plain ℕ
main_run program segment m None = halts (Ended (pos 0))
main_run program segment m (Some main) =
    called program (place_in segment) call_limit main.function (main_words m (parameter_count program main.function))
    (record { frame = stack_start; unit = main.unit; line = main.line })

-- `main` gave its result, or the run halted before
abbrev pub outcome_of : Out ℕ → Outcome
outcome_of (Gives word left answers done) = record { stop = Ended (value_of kind.Int word); done = done }
outcome_of (Halts outcome) = outcome

unfoldable pub run_of : Program → Segment → ℕ → List Answer → ℕ → Outcome
run_of program segment rank answers n =
    outcome_of (main_run program segment (opened segment rank) program.main n answers (nothing_done (opened segment rank)))
