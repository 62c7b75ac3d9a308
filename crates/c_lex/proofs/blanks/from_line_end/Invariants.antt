use Rattle.std.proofs.Common.{◌≡◌, length}
use Rattle.c_lex.specs.Reading.{from_line_end}
use Rattle.c_lex.proofs.blanks.from_line_end.Given as goal

abbrev pub invariant-line : goal.invariant-line
invariant-line l = from_line_end l.rest ≡ from_line_end l.text

abbrev pub decreases-line : goal.decreases-line
decreases-line l = length l.rest
