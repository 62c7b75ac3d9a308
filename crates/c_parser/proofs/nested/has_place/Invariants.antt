use Rattle.std.proofs.Common.{◌≡◌, length, take}
use Rattle.std.specs.List.{list_any}
use Rattle.c_grammar.specs.Told.{stands_at, has_place}
use Rattle.c_parser.proofs.nested.has_place.Given as goal

-- what is left decides
abbrev pub invariant-kinds : goal.invariant-kinds
invariant-kinds l = (l.trial.items ≡ take l.fn.token l.fn.tokens) × (list_any (stands_at l.fn.tokens l.fn.token) l.rest ≡ has_place l.fn.tokens l.fn.token)

abbrev pub decreases-kinds : goal.decreases-kinds
decreases-kinds l = length l.rest
