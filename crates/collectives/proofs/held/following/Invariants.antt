use Rattle.std.proofs.Common.{◌≡◌, ◌≤◌}
use Rattle.std.specs.Prelude.{drop}
use Rattle.collectives.specs.Held.{following}
use Rattle.collectives.proofs.held.following.Given as goal

abbrev pub invariant-loop-arg : goal.invariant-loop-arg
invariant-loop-arg l = record {
  rest : following l.next (drop l.arg-index l.args) ≡ following l.first l.args;
  low : l.next ≤ 65536;
}
