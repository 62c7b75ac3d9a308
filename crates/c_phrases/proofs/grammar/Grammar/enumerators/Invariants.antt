use Rattle.std.proofs.Common.{◌≡◌, [], length}
use Rattle.c_grammar.specs.ReadingDecl.{enumerators}
use Rattle.c_grammar.specs.Levels.{readers}
use Rattle.c_grammar.specs.Nests.{most, state_of}
use Rattle.c_phrases.proofs.grammar.Grammar.enumerators.Given as goal

abbrev pub invariant-enumerators : goal.invariant-enumerators
invariant-enumerators g l =
    (l.cursor.total ≡ l.fn.cursor.total)
    × (enumerators l.fn.cursor.total (readers l.fn.cursor.total most l.self.room) l.count l.all (state_of l.cursor)
    ≡ enumerators l.fn.cursor.total (readers l.fn.cursor.total most l.self.room) (length l.fn.cursor.rest.now) [] (state_of l.fn.cursor))

abbrev pub decreases-enumerators : goal.decreases-enumerators
decreases-enumerators g l = l.count
