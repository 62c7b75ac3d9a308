use Rattle.std.proofs.Common.{length}
use Rattle.rank_image.proofs.trees.+is_ctx_before.Given as goal

abbrev pub decreases-is_ctx_before : goal.decreases-is_ctx_before
decreases-is_ctx_before l = length l.a.now
