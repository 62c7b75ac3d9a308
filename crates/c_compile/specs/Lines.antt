-- The lines of a text, from 1 on.
use Rattle.std.specs.Prelude.{ℕ, ◌+◌, ◌-◌, List, [], ◌∷◌, ◌++◌, Option, Some, None, length, map, take, slice_get}
use Rattle.c_lex.specs.declared.token.Token.{Token}
use Rattle.c_lex.specs.Blanks.{feeds_in}

-- a byte stands on the line that is one more than the lines that end before it
abbrev pub line_of_byte : List ℕ → ℕ → ℕ
line_of_byte text at = 1 + feeds_in (take at text)

-- The end of a text stands on the line of its last byte; that of an empty one on line 1.
abbrev pub end_line : List ℕ → ℕ
end_line text = line_of_byte text (length text - 1)

-- The lines of a text's tokens, and the end's, which counts as the last token.
abbrev pub lines_of : List ℕ → List Token → List ℕ
lines_of text tokens = map (λ (t : Token). t.line) tokens ++ end_line text ∷ []

abbrev pub or_first : Option ℕ → ℕ
or_first (Some line) = line
or_first None = 1

-- The line of a token, by the lines of all of them. Where there are no lines at all it is 1.
abbrev pub line_in : List ℕ → ℕ → ℕ
line_in lines token = or_first (slice_get lines token)
