use Rattle.mpi_types.specs.Calls.{IsRun}
use Rattle.mpi_types.proofs.calls.ask_all.Given as goal

-- the answers so far are those of the calls so far
abbrev pub invariant-loop-call : goal.invariant-loop-call
invariant-loop-call g l =
    IsRun (g.B.MatchBook.held l.initial.book) l.yielded l.answers.items (g.B.MatchBook.held l.book)
