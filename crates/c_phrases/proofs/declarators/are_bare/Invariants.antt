use Rattle.std.proofs.Common.{◌≡◌, length}
use Rattle.c_grammar.specs.ReadingDecl.{are_bare}
use Rattle.c_phrases.proofs.declarators.are_bare.Given as goal

abbrev pub invariant-bare : goal.invariant-bare
invariant-bare l = are_bare l.rest ≡ are_bare l.fn.pointers

abbrev pub decreases-bare : goal.decreases-bare
decreases-bare l = length l.rest
