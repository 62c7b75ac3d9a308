use Rattle.std.proofs.Common.{◌≤◌}
use Rattle.mpi_types.specs.Book.{IsNext}
use Rattle.bench.proofs.matches.matches_behind.Given as goal

-- the requests so far are completed, and each counted at most once
abbrev pub invariant-loop-request : goal.invariant-loop-request
invariant-loop-request l = IsNext l.book l.request × (l.count ≤ l.request)
