-- Which declaration a name in scope means (C11, 6.2.1).
use Rattle.std.specs.Prelude.{ℕ, ◌+◌, if◌then◌else◌, List, [], ◌∷◌, slice_get, Option, Some, None}
use Rattle.std.specs.Str.{bytes_eq}

-- the place of the last one of some names that is this name, where those before it have so many places, and their answer is this
abbrev pub last_from : ℕ → Option ℕ → List (List ℕ) → List ℕ → Option ℕ
last_from place before [] name = before
last_from place before (n ∷ ns) name = last_from (place + 1) (if bytes_eq n name then Some place else before) ns name

-- The innermost declaration of a name is the last one: a scope within another is opened behind it, and closed before it.
unfoldable pub innermost : List (List ℕ) → List ℕ → Option ℕ
innermost names name = last_from 0 None names name

abbrev pub at_place : {T : Type 0} → List T → Option ℕ → Option T
at_place meanings (Some place) = slice_get meanings place
at_place meanings None = None

-- What a name means by its innermost declaration, if it has one.
unfoldable pub meant : {T : Type 0} → List (List ℕ) → List T → List ℕ → Option T
meant names meanings name = at_place meanings (innermost names name)
