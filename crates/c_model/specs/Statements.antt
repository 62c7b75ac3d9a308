-- What statements and functions do in a run, and the run of a program.
use Rattle.std.specs.Prelude.{ℕ, zero, suc, ◌+◌, pos, Bool, if◌then◌else◌, nat_eq, nat_le, List, [], ◌∷◌, length, take, Option, None, Some, slice_get, get_or}
use Rattle.std.specs.Ordering.{int_eq}
use Rattle.am_base.specs.declared.traps.TrapCause.TheVariants.{CallDepth, DataStack}
use Rattle.rank_range.specs.declared.run.Segment.{Segment}
use Rattle.rank_range.specs.Areas.{Memory}
use Rattle.vm_code.specs.Memory.{opened, copied, zeroed, address_of, stack_top, with_frame, with_arguments, cut_to}
use Rattle.vm_code.specs.Stops.{Paused, Ended, nothing_done}
use Rattle.vm_code.specs.Machine.{call_limit}
use Rattle.vm_code.specs.declared.code.Parameter.{Parameter as CodeParameter}
use Rattle.rank_range.specs.Layout.{globals_start, stack_start, range_bytes}
use Rattle.rank_range.specs.Kinds.{value_of}
use Rattle.rank_range.specs.declared.kinds.Kind.TheVariants as kind
use Rattle.mpi_types.specs.declared.call.Answer.{Answer}
use Rattle.c_types.specs.declared.expression.FullExpr.{FullExpr}
use Rattle.c_types.specs.declared.statement.Stmt.{Stmt, fold-Stmt}
use Rattle.c_types.specs.declared.statement.Stmt.TheOpen.{Stmt-F}
use Rattle.c_types.specs.declared.statement.Declared.{Declared}
use Rattle.c_types.specs.declared.statement.Span.{Span}
use Rattle.c_types.specs.declared.statement.Store.{Store}
use Rattle.c_types.specs.declared.statement.Stored.{Stored}
use Rattle.c_types.specs.declared.statement.Stored.TheVariants.{Number, Structure}
use Rattle.c_types.specs.declared.statement.Case.{Case}
use Rattle.c_types.specs.declared.program.Program.{Program}
use Rattle.c_types.specs.declared.program.Body.{Body}
use Rattle.c_types.specs.declared.program.Parameter.{Parameter}
use Rattle.c_types.specs.declared.program.Main.{Main}
use Rattle.c_model.specs.Outcome.{Rest, Here, Outcome, stops, traps, tick, with_memory, set_memory, writing, choose}
use Rattle.c_model.specs.Run.{Calling, Surroundings, value, store}

-- Where a statement goes on that doesn't end at its end.
pub record Exits : Type 0 where
  pub on_break : Rest
  pub on_continue : Rest
  pub on_return : ℕ → Rest

-- Where a statement stands: what calls do and where static objects stand, where its function's frame begins in the range, and
-- its unit.
pub record Frame : Type 0 where
  pub around : Surroundings
  pub start : ℕ
  pub unit : ℕ

-- What a statement does: from where it stands, by its exits, and by what comes next.
abbrev pub Meaning : Type 0
Meaning = Frame → Exits → Rest → Rest

-- A statement as a whole, and from the label of that number in it on, where it has that label of the `switch` around it.
pub record Acts : Type 0 where
  pub whole : Meaning
  pub from : ℕ → Option Meaning

abbrev pub here_at : Frame → ℕ → Here
here_at f line = record { frame = f.start; unit = f.unit; line = line }

abbrev pub evaluated : FullExpr → Frame → ℕ → (ℕ → Rest) → Rest
evaluated e f line next = value e.expr f.around (here_at f line) next

-- an expression that may be missing
abbrev pub evaluated_if : Option FullExpr → Frame → ℕ → Rest → Rest
evaluated_if None f line next = next
evaluated_if (Some e) f line next = evaluated e f line (λ x. next)

-- a test: one that is missing is true
abbrev pub tested : Option FullExpr → Frame → ℕ → Rest → Rest → Rest
tested None f line holds fails = holds
tested (Some e) f line holds fails = evaluated e f line (λ x. choose x holds fails)

-- the statement has no label
abbrev pub without_labels : Meaning → Acts
without_labels whole = record { whole = whole; from = λ label. None }

-- Statements in order.
abbrev pub in_order : List Acts → Meaning
in_order [] f exits next = next
in_order (s ∷ ss) f exits next = s.whole f exits (in_order ss f exits next)

-- statements from a label on, which stands in one of them
abbrev pub followed_by : Option Meaning → List Acts → Option Meaning → Option Meaning
followed_by None ss otherwise = otherwise
followed_by (Some m) ss otherwise = Some (λ f exits next. m f exits (in_order ss f exits next))

abbrev pub in_order_from : List Acts → ℕ → Option Meaning
in_order_from [] label = None
in_order_from (s ∷ ss) label = followed_by (s.from label) ss (in_order_from ss label)

-- the first that there is
abbrev pub either : Option Meaning → Option Meaning → Option Meaning
either None m = m
either (Some m) n = Some m

abbrev pub mapped : (Meaning → Meaning) → Option Meaning → Option Meaning
mapped g None = None
mapped g (Some m) = Some (g m)

-- A loop that tests before each turn: at most so many turns. A turn takes a tick, tests, and does the body and then the step.
abbrev pub turns : ℕ → (Rest → Rest → Rest) → Meaning → (Rest → Rest) → Meaning
turns zero test body step f exits next = stops Paused
turns (suc n) test body step f exits next =
    let again : Rest = step (turns n test body step f exits next) in
    tick (test (body f (record exits { on_break = next; on_continue = again }) again) next)

-- It makes as many turns as its test lets it. Each takes a tick, so no more turns begin than there are ticks left.
abbrev pub loop : (Rest → Rest → Rest) → Meaning → (Rest → Rest) → Meaning
loop test body step f exits next left = turns (suc left) test body step f exits next left

-- the loop from within its body on, where that is entered at a label
abbrev pub loop_from : (Rest → Rest → Rest) → Meaning → (Rest → Rest) → Meaning → Meaning
loop_from test body step entered f exits next =
    let again : Rest = step (loop test body step f exits next) in
    entered f (record exits { on_break = next; on_continue = again }) again

-- A loop that tests behind each turn, for which it takes a tick.
abbrev pub do_turns : ℕ → (Rest → Rest → Rest) → Meaning → Meaning
do_turns zero test body f exits next = stops Paused
do_turns (suc n) test body f exits next =
    let again : Rest = tick (test (do_turns n test body f exits next) next) in
    body f (record exits { on_break = next; on_continue = again }) again

abbrev pub do_loop : (Rest → Rest → Rest) → Meaning → Meaning
do_loop test body f exits next left = do_turns (suc left) test body f exits next left

abbrev pub do_from : (Rest → Rest → Rest) → Meaning → Meaning → Meaning
do_from test body entered f exits next =
    let again : Rest = tick (test (do_loop test body f exits next) next) in
    entered f (record exits { on_break = next; on_continue = again }) again

-- whether a case has the value of a word
abbrev pub is_case : Case → ℕ → Bool
is_case c x = int_eq (value_of kind.UnsignedLong x) (value_of kind.UnsignedLong c.value)

-- The label at which a `switch` goes on: that of the case with the value, else that of `default`.
abbrev pub target : List Case → Option ℕ → ℕ → Option ℕ
target [] default x = default
target (c ∷ cs) default x = if is_case c x then Some c.label else target cs default x

abbrev pub entered_at : Option Meaning → Meaning
entered_at None f exits next = next
entered_at (Some m) f exits next = m f (record exits { on_break = next }) next

abbrev pub switched : Option ℕ → Acts → Meaning
switched None body f exits next = next
switched (Some label) body f exits next = entered_at (body.from label) f exits next

-- An automatic declarator with its initialiser: its bytes are made zero, and then each value is evaluated and stored. As in an
-- assignment, the address is there before the value.
abbrev pub made_zero : Option Span → Frame → Here → Rest → Rest
made_zero None f here next = next
made_zero (Some span) f here next =
    with_memory (λ m. writing (zeroed m (address_of m (f.start + span.offset)) span.size) here next)

abbrev pub put : Stored → ℕ → ℕ → Here → Rest → Rest
put (Number k) a word here next = store k a word here next
put (Structure size) a word here next = with_memory (λ m. writing (copied m a word size) here next)

abbrev pub stored_in_order : List Store → Frame → ℕ → Rest → Rest
stored_in_order [] f line next = next
stored_in_order (s ∷ ss) f line next =
    with_memory (λ m. evaluated s.value f line (λ word.
    put s.stored (address_of m (f.start + s.offset)) word (here_at f line) (stored_in_order ss f line next)))

abbrev pub declared : Declared → Frame → Rest → Rest
declared d f next = tick (made_zero d.zeros f (here_at f d.line) (stored_in_order d.stores f d.line next))

abbrev pub all_declared : List Declared → Frame → Rest → Rest
all_declared [] f next = next
all_declared (d ∷ ds) f next = declared d f (all_declared ds f next)

-- the second branch of an `if`, where there is one
abbrev pub whole_if : Option Acts → Meaning
whole_if None f exits next = next
whole_if (Some s) f exits next = s.whole f exits next

abbrev pub from_if : Option Acts → ℕ → Option Meaning
from_if None label = None
from_if (Some s) label = s.from label

abbrev pub returned : Option FullExpr → Frame → ℕ → Exits → Rest
returned None f line exits = exits.on_return 0
returned (Some e) f line exits = evaluated e f line exits.on_return

abbrev pub acts_step : Stmt-F Acts → Acts
acts_step (Stmt-F.Empty line) = without_labels (λ f exits next. tick next)
acts_step (Stmt-F.Express line e) = without_labels (λ f exits next. tick (evaluated e f line (λ x. next)))
acts_step (Stmt-F.Declare d) = without_labels (λ f exits next. declared d f next)
acts_step (Stmt-F.Block ss) = record { whole = in_order ss; from = in_order_from ss }
acts_step (Stmt-F.If line e s t) =
    record {
      whole = λ f exits next. tick (evaluated e f line (λ x. choose x (s.whole f exits next) (whole_if t f exits next)));
      from = λ label. either (s.from label) (from_if t label);
    }
acts_step (Stmt-F.While line e s) =
    record {
      whole = λ f exits next. tick (loop (tested (Some e) f line) s.whole (λ r. r) f exits next);
      from = λ label. mapped (λ m f exits next. loop_from (tested (Some e) f line) s.whole (λ r. r) m f exits next) (s.from label);
    }
acts_step (Stmt-F.Do line s e) =
    record {
      whole = λ f exits next. tick (do_loop (tested (Some e) f line) s.whole f exits next);
      from = λ label. mapped (λ m f exits next. do_from (tested (Some e) f line) s.whole m f exits next) (s.from label);
    }
acts_step (Stmt-F.For line ds start test step s) =
    record {
      whole = λ f exits next. tick (all_declared ds f (evaluated_if start f line
          (loop (tested test f line) s.whole (evaluated_if step f line) f exits next)));
      from = λ label. mapped (λ m f exits next. loop_from (tested test f line) s.whole (evaluated_if step f line) m f exits next) (s.from label);
    }
acts_step (Stmt-F.Switch line e cases default s) =
    without_labels (λ f exits next. tick (evaluated e f line (λ x. switched (target cases default x) s f exits next)))
acts_step (Stmt-F.Labelled number s) =
    record { whole = s.whole; from = λ label. if nat_eq label number then Some s.whole else s.from label }
acts_step (Stmt-F.Break line) = without_labels (λ f exits next. tick exits.on_break)
acts_step (Stmt-F.Continue line) = without_labels (λ f exits next. tick exits.on_continue)
acts_step (Stmt-F.Return line e) = without_labels (λ f exits next. tick (returned e f line exits))

unfoldable pub acts : Stmt → Acts
acts = fold-Stmt Acts acts_step

-- the statements in order; behind the last one the function returns 0
abbrev pub statements : List Stmt → Frame → Exits → Rest
statements [] f exits = exits.on_return 0
statements (s ∷ ss) f exits = (acts s).whole f exits (statements ss f exits)

-- the parameters of a function, as code has them
abbrev pub parameters_of : List Parameter → List CodeParameter
parameters_of [] = []
parameters_of (p ∷ ps) = record { offset = p.offset; kind = p.kind } ∷ parameters_of ps

-- the function returns: its frame is gone
abbrev pub left_frame : ℕ → (ℕ → Rest) → ℕ → Rest
left_frame top next word = with_memory (λ m. set_memory (cut_to m top) (next word))

abbrev pub exits_of : (ℕ → Rest) → Exits
exits_of leave = record { on_break = leave 0; on_continue = leave 0; on_return = leave }

-- A function is entered: its frame lies above the others, and is zero but for its parameters.
abbrev pub entered : Option Body → Surroundings → List ℕ → Here → (ℕ → Rest) → Rest
entered None around words here next = next 0
entered (Some body) around words here next = with_memory (λ m.
    let top : ℕ = stack_top m in
    if nat_le (top + body.frame) range_bytes
    then set_memory (with_arguments (parameters_of body.parameters) words top (with_frame m body.frame))
    (statements body.stmts (record { around = around; start = top; unit = body.unit }) (exits_of (left_frame top next)))
    else traps DataStack here)

-- A function that nobody defines has no statements. That makes the definition total, and says nothing of C.
abbrev pub body_or_none : Option Body → Body
body_or_none None = record { unit = 0; parameters = []; frame = 0; stmts = [] }
body_or_none (Some body) = body

abbrev pub body_of : Program → ℕ → Option Body
body_of program number = elim (slice_get program.functions number) [ None ↦ None | Some function ↦ Some (body_or_none function.body) ]

-- A call, where so many more may be under way: the call depth is looked at before the data stack.
abbrev pub called : Program → (ℕ → ℕ) → ℕ → Calling
called program object zero number words here next = tick (traps CallDepth here)
called program object (suc room) number words here next =
    tick (entered (body_of program number) (record { calling = called program object room; object = object }) words here next)

-- where static objects stand in the range: an object without an offset stands where the globals begin
abbrev pub place_in : Segment → ℕ → ℕ
place_in segment number = globals_start + get_or segment.objects number 0

-- `main` is called with the words 1 and the address of the segment's start, or with none of them, as it has parameters.
abbrev pub main_words : Memory → ℕ → List ℕ
main_words m count = take count (1 ∷ address_of m globals_start ∷ [])

abbrev pub parameter_count : Program → ℕ → ℕ
parameter_count program number = elim (body_of program number) [ None ↦ 0 | Some body ↦ length body.parameters ]

-- The run of `main`: its return ends the rank with its result as an int. A program without `main` has no segment; that it ends
-- at once makes the definition total.
abbrev pub main_run : Program → Segment → Memory → Option Main → Rest
main_run program segment m None = stops (Ended (pos 0))
main_run program segment m (Some main) =
    called program (place_in segment) call_limit main.function (main_words m (parameter_count program main.function))
    (record { frame = stack_start; unit = main.unit; line = main.line })
    (λ word. stops (Ended (value_of kind.Int word)))

-- The run of a program with its segment on a rank, with the answers that its calls of MPI get and the ticks that it may take.
unfoldable pub run_of : Program → Segment → ℕ → List Answer → ℕ → Outcome
run_of program segment rank answers n =
    main_run program segment (opened segment rank) program.main n answers (nothing_done (opened segment rank))
