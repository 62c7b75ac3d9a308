-- Which full expression is the first to have too many pending values.
use Rattle.std.specs.Prelude.{ℕ, List, [], ◌∷◌, Option, None, Some, if◌then◌else◌, nat_lt, nat_le, nat_eq, ◌&&◌, ◌||◌, Bool}
use Rattle.std.specs.List.{flat_map}
use Rattle.c_types.specs.declared.program.TokenAt.{TokenAt}
use Rattle.c_types.specs.declared.program.Function.{Function}
use Rattle.c_types.specs.declared.program.Body.{Body}
use Rattle.c_types.specs.Need.{Pending, pending_of, pending_limit}

-- whether a token isn't behind another one
abbrev pub not_behind : TokenAt → TokenAt → Bool
not_behind a b = nat_lt a.unit b.unit || (nat_eq a.unit b.unit && nat_le a.token b.token)

-- the first of the token found so far and of one more
abbrev pub first_of : Option TokenAt → TokenAt → Option TokenAt
first_of None at = Some at
first_of (Some first) at = if not_behind first at then Some first else Some at

-- with one full expression of a unit more
abbrev pub found_with : ℕ → Option TokenAt → Pending → Option TokenAt
found_with unit found p = if nat_lt pending_limit p.need then first_of found (record { unit = unit; token = p.token }) else found

-- with full expressions of a unit more
abbrev pub found_in : ℕ → Option TokenAt → List Pending → Option TokenAt
found_in unit found [] = found
found_in unit found (p ∷ ps) = found_in unit (found_with unit found p) ps

abbrev pub found_in_body : Option TokenAt → Option Body → Option TokenAt
found_in_body found None = found
found_in_body found (Some body) = found_in body.unit found (flat_map pending_of body.stmts)

-- with all functions more
abbrev pub found_in_all : Option TokenAt → List Function → Option TokenAt
found_in_all found [] = found
found_in_all found (f ∷ fs) = found_in_all (found_in_body found f.body) fs
