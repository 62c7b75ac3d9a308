use Rattle.std.proofs.Common.{◌≡◌, ◌++◌}
use Rattle.std.specs.Prelude.{drop}
use Rattle.collectives.specs.Held.{here_of, up_args}
use Rattle.collectives.proofs.held.here_of.Given as goal

abbrev pub invariant-loop-message : goal.invariant-loop-message
invariant-loop-message l = l.here ++ up_args l.joined.ctx l.joined.position (drop l.message-index l.tree) ≡ here_of l.joined l.tree
