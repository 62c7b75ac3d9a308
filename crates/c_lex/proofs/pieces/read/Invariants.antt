use Rattle.std.proofs.Common.{length}
use Rattle.c_lex.specs.Progress.{SoFar}
use Rattle.c_lex.proofs.pieces.read.Given as goal

abbrev pub invariant-pieces : goal.invariant-pieces
invariant-pieces l = SoFar l.source l.rest l.progress

abbrev pub decreases-pieces : goal.decreases-pieces
decreases-pieces l = length l.rest
