use Rattle.std.proofs.Common.{◌≡◌, ◌≤◌, ◌==◌, ◌-◌, drop}
use Rattle.std.specs.List.{list_any}
use Rattle.mpi_types.specs.Reduce.{elements_of}
use Rattle.mpi_call.proofs.ready.stands_later.Given as goal

abbrev pub invariant-loop-i : goal.invariant-loop-i
invariant-loop-i l =
    (list_any (λ m. m == l.number) (drop l.i (elements_of 4 l.count l.bytes)) ≡ list_any (λ m. m == l.number) (drop l.from (elements_of 4 l.count l.bytes)))
    × (l.i ≤ l.count)

abbrev pub decreases-loop-i : goal.decreases-loop-i
decreases-loop-i l = l.count - l.i
