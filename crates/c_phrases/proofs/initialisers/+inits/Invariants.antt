use Rattle.std.proofs.Common.{◌≡◌, ◌+◌, ◌*◌, length}
use Rattle.c_grammar.specs.Nests.{most, state_of}
use Rattle.c_grammar.specs.ReadingStmt.{more_inits, init}
use Rattle.c_phrases.proofs.initialisers.+inits.Given as goal

abbrev pub decreases-init : goal.decreases-init
decreases-init l = 4 * l.room

abbrev pub decreases-inits : goal.decreases-inits
decreases-inits l = 4 * l.room + 2

abbrev pub decreases-more_inits : goal.decreases-more_inits
decreases-more_inits l = 4 * l.room + 1

-- the rest is read behind what was found
abbrev pub invariant-more_inits-inits : goal.invariant-more_inits-inits
invariant-more_inits-inits l =
    (l.cursor.total ≡ l.fn.cursor.total)
    × (more_inits l.cursor.total (init l.cursor.total most l.room) l.count l.items (state_of l.cursor)
    ≡ more_inits l.fn.cursor.total (init l.fn.cursor.total most l.room) (length l.fn.cursor.rest.now) l.fn.items (state_of l.fn.cursor))

abbrev pub decreases-more_inits-inits : goal.decreases-more_inits-inits
decreases-more_inits-inits l = l.count
