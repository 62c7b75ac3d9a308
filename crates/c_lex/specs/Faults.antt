-- What may be wrong at a place of a source, where the pieces before it are right, and which byte offends.
use Rattle.std.specs.Prelude.{◌≡◌, ◌≢◌, ◌⊎◌, ℕ, ◌+◌, ◌^◌, ◌≤◌, ◌==◌, not, Bool, true, false, IsTrue, List, ◌∷◌, ◌++◌, length}
use Rattle.c_lex.specs.declared.token.Header.{Header}
use Rattle.c_lex.specs.declared.numbers.Notation.{Notation}
use Rattle.c_lex.specs.declared.numbers.Notation.TheVariants.{Octal}
use Rattle.c_lex.specs.Blanks.{First, NotFirst, IsLineEnd, IsGap, AreGaps, IsOpenComment}
use Rattle.c_lex.specs.Words.{starts_word, out_words, IsWord, StartsMark}
use Rattle.c_lex.specs.Literals.{is_digit, base_of, number_of, begins_fraction, is_float_sign, AreDigits, IsRun, HasDigits, IsCharacter, AreCharacters, IsClosed}
use Rattle.c_lex.specs.declared.lexeme.Lexeme.{Lexeme}
use Rattle.c_lex.specs.Pieces.{IsIncludeOf, IsDefineOf, IsPragma, AreLexemes, AreSkipped}

pub data Cause : Type 0 where
  BadByte : Cause
  FloatLiteral : Cause
  OutWord : Cause
  TooWide : Cause
  Unclosed : Cause
  Directive : Cause
  TooMany : Cause

-- ---- tokens

-- a byte that a token begins with, or a comment
abbrev pub StartsToken : ℕ → Type 0
StartsToken b = IsTrue (starts_word b) ⊎ (IsTrue (is_digit 10 b) ⊎ ((b ≡ 34) ⊎ ((b ≡ 39) ⊎ StartsMark b)))

-- A literal behind its first quote: its first n bytes are right, and the next one stands for nothing.
abbrev pub IsBadLiteral : ℕ → List ℕ → ℕ → Type 0
IsBadLiteral quote body k =
    (bytes front rest : List ℕ) × (body ≡ front ++ rest) × AreCharacters quote body bytes rest
    × NotFirst (λ b. b == quote) rest × ((b : ℕ) (more : List ℕ) → IsCharacter quote rest b more → ⊥)
    × (k ≡ length front)

-- a character literal has none, or goes on behind its one character
abbrev pub IsBadCharacter : List ℕ → ℕ → Type 0
IsBadCharacter body k =
    (((b : ℕ) (more : List ℕ) → IsCharacter 39 body b more → ⊥) × (k ≡ 0))
    ⊎ ((b : ℕ) × (front rest : List ℕ) × (body ≡ front ++ rest) × IsCharacter 39 body b rest
    × NotFirst (λ c. c == 39) rest × (k ≡ length front))

-- No token can be read at the front of the text, for this cause, and the byte of this number from there on offends.
pub data IsBadToken (text : List ℕ) (cause : Cause) (k : ℕ) : Type 0 where
  -- a byte that begins no token, nor a gap, and ends no line
  byte : (b : ℕ) (bs : List ℕ) → text ≡ b ∷ bs → (StartsToken b → ⊥) → ((rest : List ℕ) → IsGap text rest → ⊥) → b ≢ 10
      → cause ≡ BadByte → k ≡ 0 → IsBadToken text cause k
  open_comment : IsOpenComment text → cause ≡ Unclosed → k ≡ 0 → IsBadToken text cause k
  out_word : (word rest : List ℕ) (before behind : List (List ℕ)) → out_words ≡ before ++ word ∷ behind
      → IsWord text word rest → cause ≡ OutWord → k ≡ 0 → IsBadToken text cause k
  float : (notation : Notation) (digits rest : List ℕ) → IsRun text notation digits rest → First (is_float_sign notation) rest
      → cause ≡ FloatLiteral → k ≡ 0 → IsBadToken text cause k
  fraction : begins_fraction text ≡ true → cause ≡ FloatLiteral → k ≡ 0 → IsBadToken text cause k
  -- an octal number with an 8 or a 9, by the first of them
  octal : (front behind rest : List ℕ) (d : ℕ) → IsRun text Octal (front ++ d ∷ behind) rest
      → NotFirst (is_float_sign Octal) rest → AreDigits 8 front → IsTrue (not (is_digit 8 d))
      → cause ≡ BadByte → k ≡ length front → IsBadToken text cause k
  wide : (notation : Notation) (digits rest : List ℕ) → HasDigits text notation digits rest
      → 2 ^ 64 ≤ number_of (base_of notation) digits → cause ≡ TooWide → k ≡ 0 → IsBadToken text cause k
  -- a literal that isn't closed in its line
  open_literal : (quote : ℕ) (body : List ℕ) → (quote ≡ 34) ⊎ (quote ≡ 39) → text ≡ quote ∷ body → (IsClosed quote body → ⊥)
      → cause ≡ Unclosed → k ≡ 0 → IsBadToken text cause k
  string : (body : List ℕ) (n : ℕ) → text ≡ 34 ∷ body → IsClosed 34 body → IsBadLiteral 34 body n
      → cause ≡ BadByte → k ≡ 1 + n → IsBadToken text cause k
  character : (body : List ℕ) (n : ℕ) → text ≡ 39 ∷ body → IsClosed 39 body → IsBadCharacter body n
      → cause ≡ BadByte → k ≡ 1 + n → IsBadToken text cause k

-- ---- directives

-- An `#include` behind its header: only gaps stand in its line, or a comment that is open.
abbrev pub EndsInclude : List ℕ → Type 0
EndsInclude text = (rest : List ℕ) × AreGaps text rest × (IsLineEnd rest ⊎ IsOpenComment rest)

abbrev pub IsDefined : List (List ℕ) → List ℕ → Type 0
IsDefined names name = (before behind : List (List ℕ)) × (names ≡ before ++ name ∷ behind)

-- A directive of this profile begins here: `#include` of one of the headers and nothing else, `#define` of a name that
-- isn't defined before, or `#pragma`.
abbrev pub BeginsDirective : List (List ℕ) → List ℕ → Type 0
BeginsDirective names text =
    ((h : Header) × (rest : List ℕ) × IsIncludeOf text h rest × EndsInclude rest)
    ⊎ (((name rest : List ℕ) × IsDefineOf text name rest × (IsDefined names name → ⊥))
    ⊎ ((rest : List ℕ) × IsPragma text rest))

-- n bytes stand before the rest
abbrev pub IsBefore : ℕ → List ℕ → List ℕ → Type 0
IsBefore k text rest = (front : List ℕ) × (text ≡ front ++ rest) × (k ≡ length front)

-- The text begins with a `#` that may begin a directive, and isn't right up to the end of its line.
pub data IsBadDirective (names : List (List ℕ)) (text : List ℕ) (cause : Cause) (k : ℕ) : Type 0 where
  none : (bs : List ℕ) → text ≡ 35 ∷ bs → (BeginsDirective names text → ⊥) → cause ≡ Directive → k ≡ 0
      → IsBadDirective names text cause k
  -- a comment that is open behind an `#include`
  include : (h : Header) (behind rest : List ℕ) → IsIncludeOf text h behind → AreGaps behind rest → IsOpenComment rest
      → cause ≡ Unclosed → IsBefore k text rest → IsBadDirective names text cause k
  -- a bad token of a `#define`, used or not
  define : (name behind rest : List ℕ) (ls : List Lexeme) (m n : ℕ) → IsDefineOf text name behind
      → (IsDefined names name → ⊥) → AreLexemes behind ls rest → IsBadToken rest cause n
      → IsBefore m text rest → k ≡ m + n → IsBadDirective names text cause k
  -- a comment that is open in a `#pragma`
  pragma : (behind rest : List ℕ) → IsPragma text behind → AreSkipped behind rest → IsOpenComment rest
      → cause ≡ Unclosed → IsBefore k text rest → IsBadDirective names text cause k

-- No piece stands at the front of the text, for this cause, and the byte of this number from there on offends. The names
-- are those defined before.
abbrev pub IsBadPiece : Bool → List (List ℕ) → List ℕ → Cause → ℕ → Type 0
IsBadPiece true names text cause k =
    IsBadDirective names text cause k ⊎ (NotFirst (λ b. b == 35) text × IsBadToken text cause k)
IsBadPiece false names text cause k = IsBadToken text cause k
