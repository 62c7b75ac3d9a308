use Rattle.std.proofs.Common.{◌≡◌, [], length}
use Rattle.c_grammar.specs.ReadingDecl.{suffixes}
use Rattle.c_grammar.specs.Levels.{readers}
use Rattle.c_grammar.specs.Nests.{most, state_of}
use Rattle.c_phrases.proofs.grammar.Grammar.suffixes.Given as goal

abbrev pub invariant-suffixes : goal.invariant-suffixes
invariant-suffixes g l =
    (l.cursor.total ≡ l.fn.cursor.total)
    × (suffixes l.fn.cursor.total l.self.room (readers l.fn.cursor.total most l.self.room) l.count l.own l.all (state_of l.cursor)
    ≡ suffixes l.fn.cursor.total l.self.room (readers l.fn.cursor.total most l.self.room) (length l.fn.cursor.rest.now) l.fn.own [] (state_of l.fn.cursor))

abbrev pub decreases-suffixes : goal.decreases-suffixes
decreases-suffixes g l = l.count
