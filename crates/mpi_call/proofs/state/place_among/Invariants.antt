use Rattle.std.proofs.Common.{◌≡◌, ◌+◌, drop}
use Rattle.mpi_rules.specs.Data.{place_among}
use Rattle.mpi_call.proofs.state.place_among.Given as goal

abbrev pub invariant-loop-i : goal.invariant-loop-i
invariant-loop-i l = place_among l.rank.0 l.members ≡ l.i + place_among l.rank.0 (drop l.i l.members)
