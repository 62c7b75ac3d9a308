-- What holds of every run.
use Rattle.std.proofs.Common.{◌≡◌, ◌≢◌, ℕ, suc, ◌+◌, ◌≤◌, false, List, [], ◌++◌, refl, subst, arith}
use Rattle.std.proofs.lemmas.List.{append-nil}
use Rattle.rank_range.specs.Areas.{Memory}
use Rattle.mpi_types.specs.declared.call.Call.{Call}
use Rattle.mpi_types.specs.declared.call.Answer.{Answer}
use Rattle.vm_code.specs.Memory.{opened}
use Rattle.vm_code.specs.Stops.{Stop, Paused, Waits, Ended, Trapped, nothing_done}
use Rattle.c_model.specs.Outcome.{Outcome}
use Rattle.c_model.specs.Statements.{run_of}
use Rattle.c_model.specs.Laws.{may_go_on, Extends, MoreExtends, TicksExtend, MoreTicksExtend, AnswersExtend, MoreAnswersExtend, TakesTicks, RunsTakeTicks}
use Rattle.c_model.proofs.Extending.{Sound}
use Rattle.c_model.proofs.Acting.{joins_main}

pub more_extends : MoreExtends
unfolding run_of
more_extends program segment rank n more answers later =
    (joins_main more later program segment (opened segment rank) program.main (suc (n + more))).extends n (n + more) answers (nothing_done (opened segment rank)) refl (omega arith)

from_nothing : (n : ℕ) (m : Memory) (run : Outcome) → Sound n (nothing_done m) run → TakesTicks n run
from_nothing n m run s =
    let most : run.done.ticks ≤ 0 + n = s.most in
    record {
      at_most = omega (arith, most);
      paused = λ e. let p : run.done.ticks ≡ 0 + n = s.paused e in omega (arith, p);
    }

pub runs_take_ticks : RunsTakeTicks
unfolding run_of
runs_take_ticks program segment rank n answers =
    from_nothing n (opened segment rank) _
    ((joins_main 0 [] program segment (opened segment rank) program.main (suc n)).sound n answers (nothing_done (opened segment rank)) (omega arith))

-- a run that isn't paused doesn't go on with ticks alone, and one that doesn't wait doesn't with answers alone
no_ticks : (stop : Stop) (more : ℕ) → stop ≢ Paused → may_go_on stop more [] ≡ false
no_ticks Paused more other = absurd (other refl)
no_ticks (Waits call) more other = refl
no_ticks (Ended status) more other = refl
no_ticks (Trapped cause unit line) more other = refl

no_answers : (stop : Stop) (later : List Answer) → ((call : Call) → stop ≢ Waits call) → may_go_on stop 0 later ≡ false
no_answers Paused later other = refl
no_answers (Waits call) later other = absurd (other call refl)
no_answers (Ended status) later other = refl
no_answers (Trapped cause unit line) later other = refl

by_ticks : (more : ℕ) (run longer : Outcome) → Extends more [] run longer → TicksExtend run longer
by_ticks more run longer e = record { same = λ other. e.same (no_ticks run.stop more other); begins = e.begins }

by_answers : (later : List Answer) (run longer : Outcome) → Extends 0 later run longer → AnswersExtend run longer
by_answers later run longer e = record { same = λ other. e.same (no_answers run.stop later other); begins = e.begins }

pub more_ticks_extend : MoreTicksExtend
more_ticks_extend program segment rank n more answers =
    subst (λ a. TicksExtend (run_of program segment rank answers n) (run_of program segment rank a (n + more))) (append-nil answers)
    (by_ticks more _ _ (more_extends program segment rank n more answers []))

pub more_answers_extend : MoreAnswersExtend
more_answers_extend program segment rank n answers later =
    let none : n + 0 ≡ n = omega arith in
    subst (λ t. AnswersExtend (run_of program segment rank answers n) (run_of program segment rank (answers ++ later) t)) none
    (by_answers later _ _ (more_extends program segment rank n 0 answers later))
