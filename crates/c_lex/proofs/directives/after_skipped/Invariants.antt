use Rattle.std.proofs.Common.{length}
use Rattle.c_lex.specs.Pieces.{AreSkipped}
use Rattle.c_lex.proofs.directives.after_skipped.Given as goal

abbrev pub invariant-skipped : goal.invariant-skipped
invariant-skipped l = AreSkipped l.text l.rest

abbrev pub decreases-skipped : goal.decreases-skipped
decreases-skipped l = length l.rest
