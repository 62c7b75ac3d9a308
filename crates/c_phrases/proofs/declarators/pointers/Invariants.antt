use Rattle.std.proofs.Common.{◌≡◌, ◌≤◌, ℕ, [], length}
use Rattle.c_grammar.specs.ReadingDecl.{pointers}
use Rattle.c_grammar.specs.Nests.{state_of}
use Rattle.c_phrases.proofs.declarators.pointers.Given as goal

-- so many pointers at most are left to read, and they are read behind those that were found
abbrev pub invariant-pointers : goal.invariant-pointers
invariant-pointers l =
    (l.cursor.total ≡ l.fn.cursor.total)
    × ((count : ℕ) × (length l.cursor.rest.now ≤ count)
    × (pointers count l.all (state_of l.cursor) ≡ pointers (length l.fn.cursor.rest.now) [] (state_of l.fn.cursor)))

abbrev pub decreases-pointers : goal.decreases-pointers
decreases-pointers l = length l.cursor.rest.now
