use Rattle.std.proofs.Common.{◌≡◌, take}
use Rattle.matcher.proofs.copies.copied_receives.Given as goal

-- the copies so far are those of the front
abbrev pub invariant-loop-receive : goal.invariant-loop-receive
invariant-loop-receive l = l.copies ≡ take l.receive-index l.posted
