use Rattle.std.proofs.Common.{◌≡◌, ◌++◌, take}
use Rattle.mpi_types.specs.Journal.{run_lines}
use Rattle.mpi_types.proofs.journal.append_runs.Given as goal

abbrev pub invariant-loop-run : goal.invariant-loop-run
invariant-loop-run l = l.out ≡ l.initial.out ++ run_lines (take l.run-index l.runs)
