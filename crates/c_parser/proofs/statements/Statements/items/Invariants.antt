use Rattle.std.proofs.Common.{◌≡◌, [], length}
use Rattle.c_grammar.specs.Nests.{most, state_of}
use Rattle.c_grammar.specs.ReadingStmt as spec
use Rattle.c_parser.proofs.statements.Statements.items.Given as goal

-- the rest is read behind what was found
abbrev pub invariant-items : goal.invariant-items
invariant-items g l =
    (l.cursor.total ≡ l.fn.cursor.total)
    × (spec.items l.cursor.total most (spec.statement l.cursor.total most l.self.room) l.self.room l.count l.all (state_of l.cursor)
    ≡ spec.items l.fn.cursor.total most (spec.statement l.fn.cursor.total most l.self.room) l.self.room (length l.fn.cursor.rest.now) [] (state_of l.fn.cursor))

abbrev pub decreases-items : goal.decreases-items
decreases-items g l = l.count
