use Rattle.std.proofs.Common.{◌≡◌, ◌-◌, drop, length}
use Rattle.mpi_rules.specs.Requests.{has_twice}
use Rattle.mpi_call.proofs.arrays.has_twice.Given as goal

abbrev pub invariant-loop-i : goal.invariant-loop-i
invariant-loop-i l = has_twice (drop l.i l.numbers) ≡ has_twice l.numbers

abbrev pub decreases-loop-i : goal.decreases-loop-i
decreases-loop-i l = length l.numbers - l.i
