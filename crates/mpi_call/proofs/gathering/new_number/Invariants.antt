use Rattle.std.proofs.Common.{◌≡◌, ◌+◌, ◌-◌, length}
use Rattle.mpi_rules.specs.Collectives.{free_from}
use Rattle.mpi_call.proofs.gathering.new_number.Given as goal

abbrev pub invariant-loop-i : goal.invariant-loop-i
invariant-loop-i l = free_from (length l.list) 2 l.list ≡ free_from (length l.list - l.i) (l.i + 2) l.list
