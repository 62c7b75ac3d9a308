use Rattle.std.proofs.Common.{◌≤◌, length}
use Rattle.bench.proofs.libraries.arguments_of.Given as goal

abbrev pub invariant-loop-number : goal.invariant-loop-number
invariant-loop-number l = 1 ≤ length l.args.items
