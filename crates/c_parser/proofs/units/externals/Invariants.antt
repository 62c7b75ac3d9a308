use Rattle.std.proofs.Common.{◌≡◌, [], length}
use Rattle.c_grammar.specs.Nests.{most, state_of}
use Rattle.c_grammar.specs.ReadingStmt as spec
use Rattle.c_parser.proofs.units.externals.Given as goal

-- the rest is read behind what was found
abbrev pub invariant-externals : goal.invariant-externals
invariant-externals l =
    spec.externals l.cursor.total most l.fn.limit l.count l.all (state_of l.cursor)
    ≡ spec.externals l.fn.cursor.total most l.fn.limit (length l.fn.cursor.rest.now) [] (state_of l.fn.cursor)

abbrev pub decreases-externals : goal.decreases-externals
decreases-externals l = l.count
