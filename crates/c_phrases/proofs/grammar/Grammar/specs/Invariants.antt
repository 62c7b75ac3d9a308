use Rattle.std.proofs.Common.{◌≡◌}
use Rattle.c_grammar.specs.ReadingDecl.{specifiers, specs}
use Rattle.c_phrases.specs.ReadingSpecs.{typed_of}
use Rattle.c_grammar.specs.Levels.{readers}
use Rattle.c_grammar.specs.Nests.{most, state_of}
use Rattle.c_phrases.proofs.grammar.Grammar.specs.Given as goal

abbrev pub invariant-specifiers : goal.invariant-specifiers
invariant-specifiers g l =
    (l.cursor.total ≡ l.fn.cursor.total)
    × (specifiers l.fn.cursor.total l.self.room (readers l.fn.cursor.total most l.self.room) l.token l.count (typed_of l.so_far) l.so_far.is_typedef l.all (state_of l.cursor)
    ≡ specs l.fn.cursor.total l.self.room (readers l.fn.cursor.total most l.self.room) (state_of l.fn.cursor))

abbrev pub decreases-specifiers : goal.decreases-specifiers
decreases-specifiers g l = l.count
