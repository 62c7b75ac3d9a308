use Rattle.std.proofs.Common.{◌≡◌, length}
use Rattle.c_grammar.specs.ReadingDecl.{stars}
use Rattle.c_phrases.proofs.declarators.stars.Given as goal

abbrev pub invariant-stars : goal.invariant-stars
invariant-stars l =
    (l.cursor.total ≡ l.fn.cursor.total) × (l.cursor.names ≡ l.fn.cursor.names)
    × (stars l.count l.cursor.rest.now ≡ stars 0 l.fn.cursor.rest.now)

abbrev pub decreases-stars : goal.decreases-stars
decreases-stars l = length l.cursor.rest.now
