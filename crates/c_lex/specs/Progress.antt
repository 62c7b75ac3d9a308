-- What is read at one place of a source, and what is known of the source then; only private functions cite it.
use Rattle.std.specs.Prelude.{◌≡◌, ◌≢◌, ◌⊎◌, ℕ, ◌+◌, true, List, [], ◌∷◌, ◌++◌, IfSome}
use Rattle.c_lex.specs.declared.token.Header.{Header}
use Rattle.c_lex.specs.declared.token.Headers.{Headers}
use Rattle.c_lex.specs.declared.error.LexError.{LexError}
use Rattle.c_lex.specs.declared.directives.Directive.{Directive}
use Rattle.c_lex.specs.declared.directives.Directive.TheVariants as directive
use Rattle.c_lex.specs.declared.lexeme.Lexeme.{Lexeme}
use Rattle.c_lex.specs.Blanks.{feeds_in, IsGap, IsNoGap}
use Rattle.c_lex.specs.Pieces.{Piece, Gap, LineEnd, Include, Define, Pragma, Token, header_name, AreLexemes, IsDirective, is_first_after}
use Rattle.c_lex.specs.Faults.{Cause, IsDefined, IsBadToken, IsBefore, IsBadDirective}
use Rattle.c_lex.specs.declared.pieces.Progress.{Progress}
use Rattle.c_lex.specs.Fronts.{EndsWith}
use Rattle.c_lex.specs.Tokens.{with_header, macros_after, no_headers, BeginsRight, Fault, fault_of}

-- ---- directives

-- no gap begins here
abbrev pub NoGap : List ℕ → Type 0
NoGap text = (rest : List ℕ) → IsGap text rest → ⊥

-- one thing that a pragma skips
abbrev pub IsSkippedOnce : List ℕ → List ℕ → Type 0
IsSkippedOnce text rest = IsGap text rest ⊎ ((b : ℕ) × (text ≡ b ∷ rest) × (b ≢ 10) × IsNoGap (b ∷ rest))

-- the header's name in `<>` or in quotes
abbrev pub NamesHeader : List ℕ → Header → List ℕ → Type 0
NamesHeader text h rest = (text ≡ 60 ∷ header_name h ++ 62 ∷ rest) ⊎ (text ≡ 34 ∷ header_name h ++ 34 ∷ rest)

-- the piece that a directive is
abbrev pub piece_of : Directive → Piece
piece_of (directive.Include h) = Include h
piece_of (directive.Define name body) = Define (record { name = name; body = body.items })
piece_of directive.Pragma = Pragma

-- what a piece defines isn't defined yet
abbrev pub Fresh : List (List ℕ) → Piece → Type 0
Fresh names Gap = Unit {0}
Fresh names LineEnd = Unit {0}
Fresh names (Include h) = Unit {0}
Fresh names (Define m) = IsDefined names m.name → ⊥
Fresh names Pragma = Unit {0}
Fresh names (Token line l) = Unit {0}

-- the text begins with this directive, and defines no name again
abbrev pub IsNewDirective : List (List ℕ) → List ℕ → Directive → List ℕ → Type 0
IsNewDirective names text d rest = IsDirective text (piece_of d) rest × Fresh names (piece_of d)

-- The error tells what is wrong with the directive at this place.
abbrev pub TellsDirective : List (List ℕ) → List ℕ → ℕ → LexError → Type 0
TellsDirective names text at e =
    IfSome (fault_of e) (λ fault. (cause : Cause) × (k : ℕ) × IsBadDirective names text cause k × (fault ≡ Fault cause (at + k)))

-- Behind some tokens stands a bad one, at this number of bytes from the front of the text.
pub record IsBadBody (text : List ℕ) (cause : Cause) (k : ℕ) : Type 0 where
  pub ls : List Lexeme
  pub rest : List ℕ
  pub m : ℕ
  pub n : ℕ
  pub lexemes : AreLexemes text ls rest
  pub bad : IsBadToken rest cause n
  pub before : IsBefore m text rest
  pub k_is : k ≡ m + n

abbrev pub TellsBody : List ℕ → ℕ → LexError → Type 0
TellsBody text at e =
    IfSome (fault_of e) (λ fault. (cause : Cause) × (k : ℕ) × IsBadBody text cause k × (fault ≡ Fault cause (at + k)))

-- ---- pieces

-- the headers that are included behind these pieces
abbrev pub headers_after : Headers → List Piece → Headers
headers_after headers [] = headers
headers_after headers (Gap ∷ ps) = headers_after headers ps
headers_after headers (LineEnd ∷ ps) = headers_after headers ps
headers_after headers (Include h ∷ ps) = headers_after (with_header h headers) ps
headers_after headers (Define m ∷ ps) = headers_after headers ps
headers_after headers (Pragma ∷ ps) = headers_after headers ps
headers_after headers (Token line l ∷ ps) = headers_after headers ps

-- The text is what a source has behind pieces that are right, and they have told this much.
pub record SoFar (source text : List ℕ) (p : Progress) : Type 0 where
  pub ps : List Piece
  pub right : BeginsRight source ps p.tokens.items text
  pub ends : EndsWith source text
  pub is_first_is : p.is_first ≡ is_first_after true ps
  pub macros_are : p.macros ≡ macros_after [] ps
  pub headers_are : p.headers ≡ headers_after no_headers ps
  pub line_is : p.line + feeds_in text ≡ 1 + feeds_in source
