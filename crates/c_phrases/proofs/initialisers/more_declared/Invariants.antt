use Rattle.std.proofs.Common.{◌≡◌, length}
use Rattle.c_grammar.specs.Nests.{most, state_of}
use Rattle.c_grammar.specs.ReadingStmt.{more_declared}
use Rattle.c_phrases.proofs.initialisers.more_declared.Given as goal

-- the rest is read behind what was found
abbrev pub invariant-declared : goal.invariant-declared
invariant-declared l =
    (l.cursor.total ≡ l.fn.cursor.total)
    × (more_declared l.cursor.total most l.room l.is_typedef l.count l.declared (state_of l.cursor)
    ≡ more_declared l.fn.cursor.total most l.room l.is_typedef (length l.fn.cursor.rest.now) l.fn.declared (state_of l.fn.cursor))

abbrev pub decreases-declared : goal.decreases-declared
decreases-declared l = l.count
