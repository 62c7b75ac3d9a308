use Rattle.std.proofs.Common.{◌≡◌, [], length}
use Rattle.c_grammar.specs.ReadingDecl.{qualifiers}
use Rattle.c_phrases.proofs.declarators.qualifiers.Given as goal

abbrev pub invariant-qualifiers : goal.invariant-qualifiers
invariant-qualifiers l =
    (l.cursor.total ≡ l.fn.cursor.total) × (l.cursor.names ≡ l.fn.cursor.names)
    × (qualifiers l.all l.cursor.rest.now ≡ qualifiers [] l.fn.cursor.rest.now)

abbrev pub decreases-qualifiers : goal.decreases-qualifiers
decreases-qualifiers l = length l.cursor.rest.now
