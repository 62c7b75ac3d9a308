use Rattle.std.proofs.Common.{◌≡◌, ◌++◌, length, reverse}
use Rattle.c_phrases.proofs.structures.boxed_specs.Given as goal

abbrev pub invariant-boxes : goal.invariant-boxes
invariant-boxes l = l.rest ++ reverse l.back ≡ l.fn.specs.specifiers

abbrev pub decreases-boxes : goal.decreases-boxes
decreases-boxes l = length l.rest

abbrev pub invariant-turns : goal.invariant-turns
invariant-turns l = l.all ++ reverse l.back ≡ l.fn.specs.specifiers

abbrev pub decreases-turns : goal.decreases-turns
decreases-turns l = length l.back
