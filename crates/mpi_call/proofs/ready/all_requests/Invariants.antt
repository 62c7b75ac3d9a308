use Rattle.std.proofs.Common.{◌≡◌, ◌-◌, drop}
use Rattle.std.specs.List.{list_all}
use Rattle.mpi_types.specs.Reduce.{elements_of}
use Rattle.mpi_rules.specs.Requests.{is_request}
use Rattle.mpi_call.specs.Answers.{kept, data_in}
use Rattle.mpi_call.proofs.ready.all_requests.Given as goal

abbrev pub invariant-loop-i : goal.invariant-loop-i
invariant-loop-i g l =
    list_all (is_request (data_in (kept l.st.own l.st.sweep (g.B.MatchBook.held l.st.book)))) (drop l.i (elements_of 4 l.count l.bytes))
    ≡ list_all (is_request (data_in (kept l.st.own l.st.sweep (g.B.MatchBook.held l.st.book)))) (elements_of 4 l.count l.bytes)

abbrev pub decreases-loop-i : goal.decreases-loop-i
decreases-loop-i g l = l.count - l.i
