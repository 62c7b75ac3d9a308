use Rattle.std.proofs.Common.{◌≡◌, ◌+◌}
use Rattle.std.specs.Prelude.{drop}
use Rattle.collectives.specs.Held.{place_of}
use Rattle.collectives.proofs.order.place_of.Given as goal

abbrev pub invariant-loop-place : goal.invariant-loop-place
invariant-loop-place l = place_of l.message (drop l.place l.tree) + l.place ≡ place_of l.message l.tree
