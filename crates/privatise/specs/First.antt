-- The first of the tokens at which something holds.
use Rattle.std.specs.Prelude.{Bool, Option, Some, None, nat_lt, nat_eq, ◌||◌, ◌&&◌, if◌then◌else◌}
use Rattle.c_types.specs.declared.program.TokenAt.{TokenAt}
use Rattle.c_types.specs.Places.{IsNotBehind}

-- It holds at this token and at none before; or there is no token, and it holds at none.
abbrev pub IsFirst : (TokenAt → Type 0) → Option TokenAt → Type 0
IsFirst Holds (Some at) = Holds at × ((there : TokenAt) → Holds there → IsNotBehind at there)
IsFirst Holds None = (at : TokenAt) → Holds at → ⊥

abbrev pub is_before : TokenAt → TokenAt → Bool
is_before a b = nat_lt a.unit b.unit || (nat_eq a.unit b.unit && nat_lt a.token b.token)

-- the first one of a token and those before
abbrev pub earlier : Option TokenAt → TokenAt → Option TokenAt
earlier (Some first) at = Some (if is_before at first then at else first)
earlier None at = Some at

abbrev pub first_of : Option TokenAt → Option TokenAt → Option TokenAt
first_of a (Some at) = earlier a at
first_of a None = a
