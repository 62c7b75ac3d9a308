use Rattle.std.proofs.Common.{◌≡◌, length}
use Rattle.c_lex.specs.Reading.{is_closed}
use Rattle.c_lex.proofs.literals.is_closed.Given as goal

abbrev pub invariant-literal : goal.invariant-literal
invariant-literal l = is_closed l.quote l.rest ≡ is_closed l.quote l.text

abbrev pub decreases-literal : goal.decreases-literal
decreases-literal l = length l.rest
