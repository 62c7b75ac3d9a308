use Rattle.std.proofs.Common.{◌≡◌, ◌+◌}
use Rattle.std.specs.Prelude.{drop}
use Rattle.packet.specs.Turns.{place_of}
use Rattle.packet.proofs.turns.place_of.Given as goal

abbrev pub invariant-loop-place : goal.invariant-loop-place
invariant-loop-place l = place_of l.h (drop l.place l.held) + l.place ≡ place_of l.h l.held
