use Rattle.std.proofs.Common.{◌≡◌, []}
use Rattle.c_grammar.specs.ReadingDecl.{parameters}
use Rattle.c_grammar.specs.Levels.{readers}
use Rattle.c_grammar.specs.Nests.{most, state_of}
use Rattle.c_phrases.proofs.grammar.Grammar.parameters.Given as goal

abbrev pub invariant-parameters : goal.invariant-parameters
invariant-parameters g l =
    (l.cursor.total ≡ l.fn.cursor.total)
    × (parameters l.fn.cursor.total (readers l.fn.cursor.total most l.self.room) l.count l.all (state_of l.cursor)
    ≡ parameters l.fn.cursor.total (readers l.fn.cursor.total most l.self.room) l.fn.limit [] (state_of l.fn.cursor))

abbrev pub decreases-parameters : goal.decreases-parameters
decreases-parameters g l = l.count
