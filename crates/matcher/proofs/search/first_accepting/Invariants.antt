use Rattle.std.proofs.Common.{take}
use Rattle.mpi_types.specs.Accepts.{IsAcceptedBy}
use Rattle.mpi_types.specs.First.{NoneOf}
use Rattle.matcher.proofs.search.first_accepting.Given as goal

-- nothing so far
abbrev pub invariant-loop-at : goal.invariant-loop-at
invariant-loop-at l = NoneOf (λ r. IsAcceptedBy r l.message) (take l.at l.posted)
