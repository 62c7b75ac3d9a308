use Rattle.std.proofs.Common.{◌≡◌, [], length}
use Rattle.c_grammar.specs.ReadingDecl.{sizes}
use Rattle.c_grammar.specs.Levels.{readers}
use Rattle.c_grammar.specs.Nests.{most, state_of}
use Rattle.c_phrases.proofs.grammar.Grammar.sizes.Given as goal

abbrev pub invariant-sizes : goal.invariant-sizes
invariant-sizes g l =
    (l.cursor.total ≡ l.fn.cursor.total)
    × (sizes l.fn.cursor.total (readers l.fn.cursor.total most l.self.room) l.count l.all (state_of l.cursor)
    ≡ sizes l.fn.cursor.total (readers l.fn.cursor.total most l.self.room) (length l.fn.cursor.rest.now) [] (state_of l.fn.cursor))

abbrev pub decreases-sizes : goal.decreases-sizes
decreases-sizes g l = l.count
