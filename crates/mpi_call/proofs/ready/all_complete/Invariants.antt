use Rattle.std.proofs.Common.{◌≡◌, ◌-◌, drop}
use Rattle.std.specs.Prelude.{is_some}
use Rattle.mpi_types.specs.Reduce.{elements_of}
use Rattle.mpi_rules.specs.Requests.{all_came}
use Rattle.mpi_call.specs.Answers.{kept, data_in}
use Rattle.mpi_call.proofs.ready.all_complete.Given as goal

abbrev pub invariant-loop-i : goal.invariant-loop-i
invariant-loop-i g l =
    is_some (all_came (data_in (kept l.st.own l.st.sweep (g.B.MatchBook.held l.st.book))) (drop l.i (elements_of 4 l.count l.bytes)))
    ≡ is_some (all_came (data_in (kept l.st.own l.st.sweep (g.B.MatchBook.held l.st.book))) (elements_of 4 l.count l.bytes))

abbrev pub decreases-loop-i : goal.decreases-loop-i
decreases-loop-i g l = l.count - l.i
