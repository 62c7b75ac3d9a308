use Rattle.std.proofs.Common.{◌≡◌, ◌++◌, take, drop}
use Rattle.mpi_rules.specs.Data.{with_next_position}
use Rattle.mpi_call.proofs.joins.step_positions.Given as goal

abbrev pub invariant-loop-c : goal.invariant-loop-c
invariant-loop-c l =
    (take l.c-index l.list ++ with_next_position l.comm (drop l.c-index l.list) ≡ with_next_position l.comm l.initial.list)
    × (drop l.c-index l.list ≡ drop l.c-index l.initial.list)
