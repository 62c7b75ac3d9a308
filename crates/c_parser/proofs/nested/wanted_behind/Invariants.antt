use Rattle.std.proofs.Common.{◌≡◌, [], length}
use Rattle.c_grammar.specs.Brackets as spec
use Rattle.c_parser.proofs.nested.wanted_behind.Given as goal

-- the rest is met behind what was
abbrev pub invariant-tokens : goal.invariant-tokens
invariant-tokens l = spec.wanted_behind l.wanted.items l.rest ≡ spec.wanted_behind [] l.fn.tokens

abbrev pub decreases-tokens : goal.decreases-tokens
decreases-tokens l = length l.rest
