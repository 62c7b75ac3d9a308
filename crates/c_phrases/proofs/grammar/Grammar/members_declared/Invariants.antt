use Rattle.std.proofs.Common.{◌≡◌, [], length}
use Rattle.c_grammar.specs.ReadingDecl.{members_declared}
use Rattle.c_grammar.specs.Levels.{readers}
use Rattle.c_grammar.specs.Nests.{most, state_of}
use Rattle.c_phrases.proofs.grammar.Grammar.members_declared.Given as goal

abbrev pub invariant-declarators : goal.invariant-declarators
invariant-declarators g l =
    (l.cursor.total ≡ l.fn.cursor.total)
    × (members_declared l.fn.cursor.total (readers l.fn.cursor.total most l.self.room) l.count l.all (state_of l.cursor)
    ≡ members_declared l.fn.cursor.total (readers l.fn.cursor.total most l.self.room) (length l.fn.cursor.rest.now) [] (state_of l.fn.cursor))

abbrev pub decreases-declarators : goal.decreases-declarators
decreases-declarators g l = l.count
