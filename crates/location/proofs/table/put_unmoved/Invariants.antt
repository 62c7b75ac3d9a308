use Rattle.std.proofs.Common.{◌≡◌, take}
use Rattle.location.specs.Places.{unmoved}
use Rattle.location.proofs.table.put_unmoved.Given as goal

abbrev pub invariant-loop-i : goal.invariant-loop-i
invariant-loop-i l = take l.i l.pairs ≡ unmoved (take l.i l.places)
