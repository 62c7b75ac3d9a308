use Rattle.std.proofs.Common.{length}
use Rattle.c_lex.specs.Blanks.{AreGaps}
use Rattle.c_lex.proofs.directives.after_gaps.Given as goal

abbrev pub invariant-gap : goal.invariant-gap
invariant-gap l = AreGaps l.text l.rest

abbrev pub decreases-gap : goal.decreases-gap
decreases-gap l = length l.rest
