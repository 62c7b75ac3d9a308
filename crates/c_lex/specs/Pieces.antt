-- A source cut into pieces: blanks and comments, the ends of lines, directives (C11, 6.10, cut to this profile) and tokens.
use Rattle.std.specs.Prelude.{◌≡◌, ◌≢◌, ◌⊎◌, ℕ, ◌+◌, ◌==◌, Bool, true, false, List, [], ◌∷◌, ◌++◌, codes}
use Rattle.c_lex.specs.declared.token.Header.{Header}
use Rattle.c_lex.specs.declared.token.Header.TheVariants as header
use Rattle.c_lex.specs.Blanks.{NotFirst, feeds_in, IsLineEnd, IsGap, AreGaps, IsNoGap}
use Rattle.c_lex.specs.Words.{IsWord, IsName}
use Rattle.c_lex.specs.declared.lexeme.Lexeme.{Lexeme}
use Rattle.c_lex.specs.Lexemes.{IsLexeme}

-- a name and the tokens that replace it
pub record Macro : Type 0 where
  pub name : List ℕ
  pub body : List Lexeme

pub data Piece : Type 0 where
  -- a blank that ends no line, a joined line or a comment
  Gap : Piece
  LineEnd : Piece
  Include : Header → Piece
  Define : Macro → Piece
  Pragma : Piece
  -- a token, and its line from 1 on
  Token : ℕ → Lexeme → Piece

-- ---- directives

-- The text begins with `#` and this word, gaps between them aside, and then comes the rest.
abbrev pub IsHead : List ℕ → List ℕ → List ℕ → Type 0
IsHead word text rest = (behind mid : List ℕ) × (text ≡ 35 ∷ behind) × AreGaps behind mid × IsWord mid word rest

abbrev pub header_name : Header → List ℕ
header_name header.Mpi = codes "mpi.h"
header_name header.Stdio = codes "stdio.h"
header_name header.Stdlib = codes "stdlib.h"
header_name header.Strings = codes "string.h"

-- `#include` of this header, in `<>` or in quotes
abbrev pub IsIncludeOf : List ℕ → Header → List ℕ → Type 0
IsIncludeOf text h rest =
    (behind mid : List ℕ) × IsHead (codes "include") text behind × AreGaps behind mid
    × ((mid ≡ 60 ∷ header_name h ++ 62 ∷ rest) ⊎ (mid ≡ 34 ∷ header_name h ++ 34 ∷ rest))

-- `#define` of this name, with no `(` directly behind it
abbrev pub IsDefineOf : List ℕ → List ℕ → List ℕ → Type 0
IsDefineOf text name rest =
    (behind mid : List ℕ) × IsHead (codes "define") text behind × AreGaps behind mid
    × IsWord mid name rest × IsName name × NotFirst (λ b. b == 40) rest

abbrev pub IsPragma : List ℕ → List ℕ → Type 0
IsPragma text rest = IsHead (codes "pragma") text rest

-- The text begins with these tokens, with gaps before and between them, and then comes the rest.
pub data AreLexemes : List ℕ → List Lexeme → List ℕ → Type 0 where
  none : (text : List ℕ) → AreLexemes text [] text
  gap : (text mid rest : List ℕ) (ls : List Lexeme) → IsGap text mid → AreLexemes mid ls rest → AreLexemes text ls rest
  token : (text mid rest : List ℕ) (l : Lexeme) (ls : List Lexeme) → IsLexeme text l mid → AreLexemes mid ls rest
      → AreLexemes text (l ∷ ls) rest

-- The text begins with bytes that a pragma skips: comments and joined lines as such, and any byte that ends no line.
pub data AreSkipped : List ℕ → List ℕ → Type 0 where
  none : (text : List ℕ) → AreSkipped text text
  gap : (text mid rest : List ℕ) → IsGap text mid → AreSkipped mid rest → AreSkipped text rest
  byte : (b : ℕ) (bs rest : List ℕ) → b ≢ 10 → IsNoGap (b ∷ bs) → AreSkipped bs rest → AreSkipped (b ∷ bs) rest

-- The text begins with this directive, which ends with its line, and then comes the line's end.
pub data IsDirective (text : List ℕ) (p : Piece) (rest : List ℕ) : Type 0 where
  include : (h : Header) (behind : List ℕ) → IsIncludeOf text h behind → AreGaps behind rest → IsLineEnd rest
      → p ≡ Include h → IsDirective text p rest
  define : (name behind : List ℕ) (body : List Lexeme) → IsDefineOf text name behind → AreLexemes behind body rest
      → IsLineEnd rest → p ≡ Define (record { name = name; body = body }) → IsDirective text p rest
  pragma : (behind : List ℕ) → IsPragma text behind → AreSkipped behind rest → IsLineEnd rest
      → p ≡ Pragma → IsDirective text p rest

-- ---- pieces

-- The text begins with this piece, the longest that stands there, and then comes the rest. The first argument says
-- whether only gaps stand before it in its line: only there may a directive begin. The text is an end of the whole source,
-- and a token's line is one more than the number of lines that have ended before it, joined ones too.
pub data IsPiece (is_first : Bool) (whole text : List ℕ) (p : Piece) (rest : List ℕ) : Type 0 where
  gap : IsGap text rest → p ≡ Gap → IsPiece is_first whole text p rest
  line_end : text ≡ 10 ∷ rest → p ≡ LineEnd → IsPiece is_first whole text p rest
  directive : is_first ≡ true → IsDirective text p rest → IsPiece is_first whole text p rest
  token : (line : ℕ) (l : Lexeme) → IsLexeme text l rest → line + feeds_in text ≡ 1 + feeds_in whole → p ≡ Token line l
      → IsPiece is_first whole text p rest

-- whether only gaps stand in the line behind these pieces
abbrev pub is_first_behind : Bool → Piece → Bool
is_first_behind is_first Gap = is_first
is_first_behind is_first LineEnd = true
is_first_behind is_first (Include h) = false
is_first_behind is_first (Define m) = false
is_first_behind is_first Pragma = false
is_first_behind is_first (Token line l) = false

abbrev pub is_first_after : Bool → List Piece → Bool
is_first_after is_first [] = is_first
is_first_after is_first (p ∷ ps) = is_first_after (is_first_behind is_first p) ps

-- The text begins with these pieces, one after another, and then comes the rest.
abbrev pub ArePieces : Bool → List ℕ → List ℕ → List Piece → List ℕ → Type 0
ArePieces is_first whole text [] rest = text ≡ rest
ArePieces is_first whole text (p ∷ ps) rest =
    (mid : List ℕ) × IsPiece is_first whole text p mid × ArePieces (is_first_behind is_first p) whole mid ps rest

-- the source begins with these pieces
abbrev pub BeginsWithPieces : List ℕ → List Piece → List ℕ → Type 0
BeginsWithPieces source ps rest = ArePieces true source source ps rest

-- the source is these pieces
abbrev pub IsCut : List ℕ → List Piece → Type 0
IsCut source ps = BeginsWithPieces source ps []
