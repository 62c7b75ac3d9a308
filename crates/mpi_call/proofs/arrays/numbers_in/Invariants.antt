use Rattle.std.proofs.Common.{◌≡◌, ◌++◌, ◌-◌, ◌*◌, drop}
use Rattle.mpi_types.specs.Reduce.{elements_of}
use Rattle.mpi_call.proofs.arrays.numbers_in.Given as goal

abbrev pub invariant-loop-i : goal.invariant-loop-i
invariant-loop-i l = l.numbers ++ elements_of 4 (l.count - l.i) (drop (4 * l.i) l.bytes) ≡ elements_of 4 l.count l.bytes

abbrev pub decreases-loop-i : goal.decreases-loop-i
decreases-loop-i l = l.count - l.i
