-- What stands at the front of a text, where no directive does: its end, a gap, the end of a line, a token, or what is wrong.
use Rattle.std.specs.Prelude.{◌≡◌, ◌⊎◌, ℕ, ◌<◌, List, [], ◌∷◌, ◌++◌, length}
use Rattle.c_lex.specs.declared.fronts.Seen.{Seen}
use Rattle.c_lex.specs.declared.fronts.Seen.TheVariants as seen
use Rattle.c_lex.specs.Blanks.{IsGap}
use Rattle.c_lex.specs.Lexemes.{IsLexeme}
use Rattle.c_lex.specs.Faults.{Cause, IsBadToken}

pub data Front : Type 0 where
  Right : Seen → List ℕ → Front
  Wrong : Cause → ℕ → Front

abbrev pub IsSeen : List ℕ → Seen → List ℕ → Type 0
IsSeen text seen.End rest = (text ≡ []) × (rest ≡ [])
IsSeen text seen.Gap rest = IsGap text rest
IsSeen text seen.LineEnd rest = text ≡ 10 ∷ rest
IsSeen text (seen.Token l) rest = IsLexeme text l rest

abbrev pub IsFront : List ℕ → Front → Type 0
IsFront text (Right s rest) = IsSeen text s rest
IsFront text (Wrong cause k) = IsBadToken text cause k

-- each text has just one front
abbrev pub HasFront : Type 0
HasFront = (text : List ℕ) → (front : Front) × IsFront text front

abbrev pub IsOneFront : Type 0
IsOneFront = (text : List ℕ) (a b : Front) → IsFront text a → IsFront text b → a ≡ b

-- The text is some bytes and then the rest.
abbrev pub EndsWith : List ℕ → List ℕ → Type 0
EndsWith text rest = (front : List ℕ) × (text ≡ front ++ rest)

-- What is seen at a text's front takes at least one of its bytes, but for its end, and the rest is behind it.
abbrev pub TakesBytes : Type 0
TakesBytes =
    (text : List ℕ) (s : Seen) (rest : List ℕ) → IsSeen text s rest
    → EndsWith text rest × ((text ≡ []) ⊎ (length rest < length text))
