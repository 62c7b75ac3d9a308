use Rattle.std.proofs.Common.{◌≡◌, length}
use Rattle.call_tests.proofs.tests.places.the_greatest_count_is_known.Given as goal

abbrev pub invariant-loop-rank : goal.invariant-loop-rank
invariant-loop-rank g l = length l.table.homes ≡ 4
