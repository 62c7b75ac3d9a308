use Rattle.std.proofs.Common.{◌≡◌, take}
use Rattle.matcher.proofs.copies.copied_messages.Given as goal

-- the copies so far are those of the front
abbrev pub invariant-loop-message : goal.invariant-loop-message
invariant-loop-message l = l.copies ≡ take l.message-index l.arrived
