use Rattle.std.proofs.Common.{◌≡◌, ◌+◌, drop}
use Rattle.mpi_call.specs.Numbers.{place_for}
use Rattle.mpi_call.proofs.gathering.place_for.Given as goal

abbrev pub invariant-loop-i : goal.invariant-loop-i
invariant-loop-i l = place_for l.number l.list ≡ l.i + place_for l.number (drop l.i l.list)
