use Rattle.mpi_types.specs.Book.{IsNext}
use Rattle.bench.proofs.matches.filled.Given as goal

-- no request is live
abbrev pub invariant-loop-turn : goal.invariant-loop-turn
invariant-loop-turn l = IsNext l.book 0
