use Rattle.std.proofs.Common.{◌≡◌, ◌+◌, ◌-◌, ◌*◌, List, drop, length, Some}
use Rattle.mpi_rules.specs.Requests.{Came, all_came}
use Rattle.mpi_call.specs.Answers.{kept, data_in}
use Rattle.mpi_call.specs.Arrays.{status_at}
use Rattle.mpi_call.proofs.ArrayLemmas.{Ended}
use Rattle.mpi_call.proofs.waitall.end_all.Given as goal

-- those so far have ended
abbrev pub invariant-loop-i : goal.invariant-loop-i
invariant-loop-i g l =
    (came : List Came) → all_came (data_in (kept l.initial.st.own l.initial.st.sweep (g.B.MatchBook.held l.initial.st.book))) l.numbers ≡ Some came
    → Ended (kept l.initial.st.own l.initial.st.sweep (g.B.MatchBook.held l.initial.st.book)) (kept l.st.own l.st.sweep (g.B.MatchBook.held l.st.book))
    l.numbers (drop l.i l.numbers) came (drop l.i l.all) l.requests l.status (l.requests + 4 * l.i) (status_at l.status l.i) l.writes

abbrev pub decreases-loop-i : goal.decreases-loop-i
decreases-loop-i g l = length l.numbers - l.i
