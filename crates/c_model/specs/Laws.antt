-- What holds of every run: what more ticks and more answers do to it, and how many ticks it takes.
use Rattle.std.specs.Prelude.{ℕ, zero, suc, ◌≡◌, ◌≢◌, ◌+◌, ◌≤◌, Bool, true, false, List, [], ◌∷◌, ◌++◌}
use Rattle.rank_range.specs.declared.run.Segment.{Segment}
use Rattle.mpi_types.specs.declared.call.Call.{Call}
use Rattle.mpi_types.specs.declared.call.Answer.{Answer}
use Rattle.vm_code.specs.Stops.{Stop, Paused, Waits, Ended, Trapped, Done}
use Rattle.c_types.specs.declared.program.Program.{Program}
use Rattle.c_model.specs.Outcome.{Outcome}
use Rattle.c_model.specs.Statements.{run_of}
use Rattle.c_model.specs.Plain as plain

-- What was done first is the beginning of what was done: the text is its first part, the calls of MPI are its first ones (which
-- stand last in the list), and no fewer ticks were taken.
pub record Begins (first whole : Done) : Type 0 where
  pub text : (more : List ℕ) × (whole.text ≡ first.text ++ more)
  pub made : (more : List Call) × (whole.made ≡ more ++ first.made)
  pub ticks : first.ticks ≤ whole.ticks

-- Whether a run that stands so may go on with so many more ticks and with these answers more.
abbrev pub may_go_on : Stop → ℕ → List Answer → Bool
may_go_on Paused zero later = false
may_go_on Paused (suc more) later = true
may_go_on (Waits call) more [] = false
may_go_on (Waits call) more (answer ∷ later) = true
may_go_on (Ended status) more later = false
may_go_on (Trapped cause unit line) more later = false

-- A run with so many more ticks and these answers more: the same where it can't go on with them, and in any case a longer one.
pub record Extends (more : ℕ) (later : List Answer) (run longer : Outcome) : Type 0 where
  pub same : may_go_on run.stop more later ≡ false → longer ≡ run
  pub begins : Begins run.done longer.done

-- More ticks and more answers extend a run.
abbrev pub MoreExtends : Type 0
MoreExtends =
    (program : Program) (segment : Segment) (rank n more : ℕ) (answers later : List Answer)
    → Extends more later (run_of program segment rank answers n) (run_of program segment rank (answers ++ later) (n + more))

-- More ticks alone: a run that isn't paused is the same with them.
pub record TicksExtend (run longer : Outcome) : Type 0 where
  pub same : run.stop ≢ Paused → longer ≡ run
  pub begins : Begins run.done longer.done

abbrev pub MoreTicksExtend : Type 0
MoreTicksExtend =
    (program : Program) (segment : Segment) (rank n more : ℕ) (answers : List Answer)
    → TicksExtend (run_of program segment rank answers n) (run_of program segment rank answers (n + more))

-- More answers alone: a run that doesn't wait is the same with them.
pub record AnswersExtend (run longer : Outcome) : Type 0 where
  pub same : ((call : Call) → run.stop ≢ Waits call) → longer ≡ run
  pub begins : Begins run.done longer.done

abbrev pub MoreAnswersExtend : Type 0
MoreAnswersExtend =
    (program : Program) (segment : Segment) (rank n : ℕ) (answers later : List Answer)
    → AnswersExtend (run_of program segment rank answers n) (run_of program segment rank (answers ++ later) n)

-- No run takes more ticks than it may, and a paused one took all of them.
pub record TakesTicks (n : ℕ) (run : Outcome) : Type 0 where
  pub at_most : run.done.ticks ≤ n
  pub paused : run.stop ≡ Paused → run.done.ticks ≡ n

abbrev pub RunsTakeTicks : Type 0
RunsTakeTicks =
    (program : Program) (segment : Segment) (rank n : ℕ) (answers : List Answer)
    → TakesTicks n (run_of program segment rank answers n)

-- A run is what the plain recursion gives.
abbrev pub RunsArePlain : Type 0
RunsArePlain =
    (program : Program) (segment : Segment) (rank n : ℕ) (answers : List Answer)
    → run_of program segment rank answers n ≡ plain.run_of program segment rank answers n
