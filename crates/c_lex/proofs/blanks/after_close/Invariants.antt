use Rattle.std.proofs.Common.{◌≡◌, length}
use Rattle.c_lex.specs.Reading.{after_close}
use Rattle.c_lex.proofs.blanks.after_close.Given as goal

abbrev pub invariant-close : goal.invariant-close
invariant-close l = after_close l.rest ≡ after_close l.text

abbrev pub decreases-close : goal.decreases-close
decreases-close l = length l.rest
