use Rattle.std.proofs.Common.{◌≡◌, take}
use Rattle.matcher.proofs.copies.copied_pairs.Given as goal

-- the copies so far are those of the front
abbrev pub invariant-loop-pair : goal.invariant-loop-pair
invariant-loop-pair l = l.copies ≡ take l.pair-index l.matched
