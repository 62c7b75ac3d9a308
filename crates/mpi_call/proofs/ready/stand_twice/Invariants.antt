use Rattle.std.proofs.Common.{◌≡◌, ◌-◌, drop}
use Rattle.mpi_types.specs.Reduce.{elements_of}
use Rattle.mpi_rules.specs.Requests.{has_twice}
use Rattle.mpi_call.proofs.ready.stand_twice.Given as goal

abbrev pub invariant-loop-i : goal.invariant-loop-i
invariant-loop-i l = has_twice (drop l.i (elements_of 4 l.count l.bytes)) ≡ has_twice (elements_of 4 l.count l.bytes)

abbrev pub decreases-loop-i : goal.decreases-loop-i
decreases-loop-i l = l.count - l.i
