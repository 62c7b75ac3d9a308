use Rattle.std.proofs.Common.{◌≡◌, ◌++◌, ◌-◌, List, drop, length, map}
use Rattle.std.specs.Prelude.{option_map}
use Rattle.mpi_rules.specs.Requests.{Came, all_came}
use Rattle.mpi_call.specs.Answers.{kept, data_in}
use Rattle.mpi_call.specs.Sizes.{sizes_of}
use Rattle.mpi_call.proofs.waitall.all_came.Given as goal

abbrev pub invariant-loop-i : goal.invariant-loop-i
invariant-loop-i g l =
    option_map (λ (rest : List Came). l.all ++ map sizes_of rest)
    (all_came (data_in (kept l.st.own l.st.sweep (g.B.MatchBook.held l.st.book))) (drop l.i l.numbers))
    ≡ option_map (map sizes_of) (all_came (data_in (kept l.st.own l.st.sweep (g.B.MatchBook.held l.st.book))) l.numbers)

abbrev pub decreases-loop-i : goal.decreases-loop-i
decreases-loop-i g l = length l.numbers - l.i
