use Rattle.std.proofs.Common.{◌≡◌, drop}
use Rattle.buddy_ckpt.specs.Keepers.{lost_from}
use Rattle.buddy_ckpt.proofs.keepers.lost_both.Given as goal

abbrev pub invariant-loop-i : goal.invariant-loop-i
invariant-loop-i l = lost_from l.live.0 0 l.pairs ≡ lost_from l.live.0 l.i (drop l.i l.pairs)
