-- The macros as a table keeps them, by their numbers. Only private functions cite it.
use Rattle.std.specs.Prelude.{◌≡◌, ℕ, ◌<◌, List, [], ◌∷◌, length, map, reverse, slice_index_or}
use Rattle.c_lex.specs.declared.lexeme.Lexeme.{Lexeme}
use Rattle.c_lex.specs.declared.table.Table.{Table as ATable}
use Rattle.c_lex.specs.Pieces.{Macro}
use Rattle.c_lex.specs.Tokens.{AreDistinct}

abbrev pub names_in : ATable → List (List ℕ)
names_in t = map (λ name. name.items) t.names.keys

abbrev pub bodies_in : ATable → List (List Lexeme)
bodies_in t = map (λ body. body.items) t.bodies.items

abbrev pub name_in : ATable → ℕ → List ℕ
name_in t i = slice_index_or (names_in t) i []

abbrev pub macro_in : ATable → ℕ → Macro
macro_in t i = record { name = slice_index_or (names_in t) i []; body = slice_index_or (bodies_in t) i [] }

-- names with their bodies
abbrev pub paired : List (List ℕ) → List (List Lexeme) → List Macro
paired [] bodies = []
paired (name ∷ names) [] = []
paired (name ∷ names) (body ∷ bodies) = record { name = name; body = body } ∷ paired names bodies

-- the last one first
abbrev pub macros_in : ATable → List Macro
macros_in t = reverse (paired (names_in t) (bodies_in t))

-- What holds of each table.
pub record IsTable (t : ATable) : Type 0 where
  pub same : length (bodies_in t) ≡ length (names_in t)
  pub distinct : AreDistinct (macros_in t)
  pub one_each : (i j : ℕ) → i < length (names_in t) → j < length (names_in t) → name_in t i ≡ name_in t j → i ≡ j

-- the same names and bodies
abbrev pub Same : ATable → ATable → Type 0
Same old new = (names_in new ≡ names_in old) × (bodies_in new ≡ bodies_in old)
