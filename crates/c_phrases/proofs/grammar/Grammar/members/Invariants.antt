use Rattle.std.proofs.Common.{◌≡◌, [], length}
use Rattle.c_grammar.specs.ReadingDecl.{members}
use Rattle.c_grammar.specs.Levels.{readers}
use Rattle.c_grammar.specs.Nests.{most, state_of}
use Rattle.c_phrases.proofs.grammar.Grammar.members.Given as goal

abbrev pub invariant-members : goal.invariant-members
invariant-members g l =
    (l.cursor.total ≡ l.fn.cursor.total)
    × (members l.fn.cursor.total (readers l.fn.cursor.total most l.self.room) l.count l.all (state_of l.cursor)
    ≡ members l.fn.cursor.total (readers l.fn.cursor.total most l.self.room) (length l.fn.cursor.rest.now) [] (state_of l.fn.cursor))

abbrev pub decreases-members : goal.decreases-members
decreases-members g l = l.count
