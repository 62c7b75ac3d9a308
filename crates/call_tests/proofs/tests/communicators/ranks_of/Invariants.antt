use Rattle.std.proofs.Common.{◌≡◌, length}
use Rattle.call_tests.proofs.tests.communicators.ranks_of.Given as goal

abbrev pub invariant-loop-number : goal.invariant-loop-number
invariant-loop-number l = length l.ranks.items ≡ l.number-index
