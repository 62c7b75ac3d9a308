use Rattle.std.proofs.Common.{◌≡◌, take}
use Rattle.rank_image.proofs.messages.context_of.Given as goal

abbrev pub invariant-loop-level : goal.invariant-loop-level
invariant-loop-level l = l.ctx ≡ take l.level-index l.levels
