use Rattle.std.proofs.Common.{◌≡◌, [], take}
use Rattle.forwarding.specs.Waiting.{those_for}
use Rattle.forwarding.proofs.room.first_for.Given as goal

abbrev pub invariant-loop-i : goal.invariant-loop-i
invariant-loop-i l = those_for l.r.0 (take l.i l.packets) ≡ []
