use Rattle.std.proofs.Common.{length}
use Rattle.c_check.proofs.redeclared.+pairs_agree.Given as goal

abbrev pub decreases-pairs_agree : goal.decreases-pairs_agree
decreases-pairs_agree l = length l.a.now
