use Rattle.std.proofs.Common.{◌≡◌, ◌-◌, drop, length}
use Rattle.std.specs.List.{list_all}
use Rattle.mpi_rules.specs.Requests.{is_request}
use Rattle.mpi_call.specs.Answers.{kept, data_in}
use Rattle.mpi_call.proofs.arrays.are_requests.Given as goal

abbrev pub invariant-loop-i : goal.invariant-loop-i
invariant-loop-i g l =
    list_all (is_request (data_in (kept l.st.own l.st.sweep (g.B.MatchBook.held l.st.book)))) (drop l.i l.numbers)
    ≡ list_all (is_request (data_in (kept l.st.own l.st.sweep (g.B.MatchBook.held l.st.book)))) l.numbers

abbrev pub decreases-loop-i : goal.decreases-loop-i
decreases-loop-i g l = length l.numbers - l.i
