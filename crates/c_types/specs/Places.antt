-- The order of the tokens of all units.
use Rattle.std.specs.Prelude.{◌≡◌, ◌<◌, ◌≤◌, ◌⊎◌}
use Rattle.c_types.specs.declared.program.TokenAt.{TokenAt}

-- The token stands in an earlier unit, or before the other one in the same unit.
abbrev pub IsBefore : TokenAt → TokenAt → Type 0
IsBefore a b = (a.unit < b.unit) ⊎ ((a.unit ≡ b.unit) × (a.token < b.token))

abbrev pub IsNotBehind : TokenAt → TokenAt → Type 0
IsNotBehind a b = (a.unit < b.unit) ⊎ ((a.unit ≡ b.unit) × (a.token ≤ b.token))
