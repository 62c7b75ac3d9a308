use Rattle.std.proofs.Common.{◌<◌, take}
use Rattle.std.specs.Prelude.{All}
use Rattle.matcher.proofs.search.place_of.Given as goal

-- nothing so far
abbrev pub invariant-loop-at : goal.invariant-loop-at
invariant-loop-at l = All (λ p. p.receive.request < l.request) (take l.at l.matched)
