use Rattle.std.proofs.Common.{take}
use Rattle.mpi_types.specs.Accepts.{Accepts}
use Rattle.mpi_types.specs.First.{NoneOf}
use Rattle.matcher.proofs.search.first_accepted.Given as goal

-- nothing so far
abbrev pub invariant-loop-at : goal.invariant-loop-at
invariant-loop-at l = NoneOf (Accepts l.ctx l.source l.tag) (take l.at l.arrived)
