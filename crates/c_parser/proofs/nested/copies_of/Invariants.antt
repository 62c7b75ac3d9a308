use Rattle.std.proofs.Common.{◌≡◌, ◌++◌, length}
use Rattle.c_parser.proofs.nested.copies_of.Given as goal

-- what is copied, and what is left
abbrev pub invariant-tokens : goal.invariant-tokens
invariant-tokens l = l.copies.items ++ l.rest ≡ l.fn.tokens

abbrev pub decreases-tokens : goal.decreases-tokens
decreases-tokens l = length l.rest
