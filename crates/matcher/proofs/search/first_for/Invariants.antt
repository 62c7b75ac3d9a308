use Rattle.std.proofs.Common.{take}
use Rattle.mpi_types.specs.Accepts.{IsAcceptedBy}
use Rattle.mpi_types.specs.First.{NoneOf}
use Rattle.matcher.proofs.search.first_for.Given as goal

-- nothing so far
abbrev pub invariant-loop-at : goal.invariant-loop-at
invariant-loop-at l = NoneOf (IsAcceptedBy l.receive) (take l.at l.arrived)
