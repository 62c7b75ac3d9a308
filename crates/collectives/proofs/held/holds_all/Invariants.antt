use Rattle.std.proofs.Common.{◌≡◌, ◌≤◌, ◌+◌}
use Rattle.std.specs.Prelude.{drop}
use Rattle.collectives.specs.Held.{following, up_args}
use Rattle.collectives.proofs.held.holds_all.Given as goal

abbrev pub invariant-loop-message : goal.invariant-loop-message
invariant-loop-message l = record {
  rest : following l.next (up_args l.joined.ctx l.joined.position (drop l.message-index l.tree)) ≡ following (l.joined.arg.member + 1) (up_args l.joined.ctx l.joined.position l.tree);
  low : l.next ≤ 65536;
}
