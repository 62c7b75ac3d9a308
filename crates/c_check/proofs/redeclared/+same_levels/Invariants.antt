use Rattle.std.proofs.Common.{length}
use Rattle.c_check.proofs.redeclared.+same_levels.Given as goal

abbrev pub decreases-same_levels : goal.decreases-same_levels
decreases-same_levels l = length l.a.now
