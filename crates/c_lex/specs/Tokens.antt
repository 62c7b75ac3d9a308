-- The tokens of a source: its pieces, with the names of macros replaced, and strings next to each other joined.
use Rattle.std.specs.Prelude.{◌≡◌, ◌⊎◌, ℕ, ◌+◌, ◌^◌, ◌<◌, ◌≤◌, ◌&&◌, ⊤, if◌then◌else◌, Bool, true, false, List, [], ◌∷◌, ◌++◌, length, map, Option, Some, None, IfSome, Result, Ok, Err, Vec}
use Rattle.std.specs.declared.alloc.Global.{Global}
use Rattle.c_lex.specs.declared.token.Header.{Header}
use Rattle.c_lex.specs.declared.token.Header.TheVariants as header
use Rattle.c_lex.specs.declared.token.Headers.{Headers}
use Rattle.c_lex.specs.declared.token.TokenKind.{TokenKind}
use Rattle.c_lex.specs.declared.token.TokenKind.TheVariants as kind
use Rattle.c_lex.specs.declared.token.Token.{Token as AToken}
use Rattle.c_lex.specs.declared.error.LexError.{LexError}
use Rattle.c_lex.specs.declared.error.LexError.TheVariants as error
use Rattle.c_lex.specs.declared.lexeme.Lexeme.{Lexeme}
use Rattle.c_lex.specs.Lexemes.{name_token}
use Rattle.c_lex.specs.Pieces.{Macro, Piece, Gap, LineEnd, Include, Define, Pragma, Token, is_first_after, IsPiece, BeginsWithPieces}
use Rattle.c_lex.specs.Faults.{Cause, BadByte, FloatLiteral, OutWord, TooWide, Unclosed, Directive, TooMany, IsDefined, IsBadPiece}

-- ---- macros

abbrev pub names_of : List Macro → List (List ℕ)
names_of macros = map (λ (m : Macro). m.name) macros

abbrev pub HasMacro : List Macro → Macro → Type 0
HasMacro macros m = (before behind : List Macro) × (macros ≡ before ++ m ∷ behind)

-- no name is defined twice
abbrev pub AreDistinct : List Macro → Type 0
AreDistinct [] = ⊤
AreDistinct (m ∷ ms) = (IsDefined (names_of ms) m.name → ⊥) × AreDistinct ms

-- a macro that replaces this token, other than those that are being replaced
pub record Replaces (macros : List Macro) (hidden : List (List ℕ)) (m : Macro) (l : Lexeme) : Type 0 where
  pub has : HasMacro macros m
  pub named : l ≡ name_token m.name
  pub not_hidden : IsDefined hidden m.name → ⊥

-- Where these names are being replaced, the tokens become these others. A macro's name becomes the macro's tokens, and these
-- are replaced again, but not by a name that is being replaced.
pub data Become (macros : List Macro) : List (List ℕ) → List Lexeme → List Lexeme → Type 0 where
  none : (hidden : List (List ℕ)) → Become macros hidden [] []
  kept : (hidden : List (List ℕ)) (l : Lexeme) (ls out : List Lexeme) → ((m : Macro) → Replaces macros hidden m l → ⊥)
      → Become macros hidden ls out → Become macros hidden (l ∷ ls) (l ∷ out)
  replaced : (hidden : List (List ℕ)) (l : Lexeme) (m : Macro) (ls inner out : List Lexeme) → Replaces macros hidden m l
      → Become macros (m.name ∷ hidden) m.body inner → Become macros hidden ls out
      → Become macros hidden (l ∷ ls) (inner ++ out)

-- each list of tokens becomes some list
abbrev pub BecomesSome : Type 0
BecomesSome = (macros : List Macro) (hidden : List (List ℕ)) (ls : List Lexeme) → (out : List Lexeme) × Become macros hidden ls out

-- and just one, where no name is defined twice
abbrev pub BecomesOne : Type 0
BecomesOne =
    (macros : List Macro) (hidden : List (List ℕ)) (ls a b : List Lexeme)
    → AreDistinct macros → Become macros hidden ls a → Become macros hidden ls b → a ≡ b

-- ---- from pieces to tokens

abbrev pub no_headers : Headers
no_headers = record { mpi = false; stdio = false; stdlib = false; strings = false }

abbrev pub with_header : Header → Headers → Headers
with_header header.Mpi h = record { mpi = true; stdio = h.stdio; stdlib = h.stdlib; strings = h.strings }
with_header header.Stdio h = record { mpi = h.mpi; stdio = true; stdlib = h.stdlib; strings = h.strings }
with_header header.Stdlib h = record { mpi = h.mpi; stdio = h.stdio; stdlib = true; strings = h.strings }
with_header header.Strings h = record { mpi = h.mpi; stdio = h.stdio; stdlib = h.stdlib; strings = true }

abbrev pub placed : ℕ → Headers → Lexeme → AToken
placed line h l = record { kind = l.kind; line = line; value = l.value; text = l.text; headers = h }

-- the macros that are defined behind these pieces, the last one first
abbrev pub macros_after : List Macro → List Piece → List Macro
macros_after macros [] = macros
macros_after macros (Gap ∷ ps) = macros_after macros ps
macros_after macros (LineEnd ∷ ps) = macros_after macros ps
macros_after macros (Include h ∷ ps) = macros_after macros ps
macros_after macros (Define m ∷ ps) = macros_after (m ∷ macros) ps
macros_after macros (Pragma ∷ ps) = macros_after macros ps
macros_after macros (Token line l ∷ ps) = macros_after macros ps

-- Behind these macros and headers, the pieces give these tokens. No name is defined twice. A token is replaced by the macros
-- before it, and what comes of it has its line.
abbrev pub Give : List Macro → Headers → List Piece → List AToken → Type 0
Give macros headers [] out = out ≡ []
Give macros headers (Gap ∷ ps) out = Give macros headers ps out
Give macros headers (LineEnd ∷ ps) out = Give macros headers ps out
Give macros headers (Include h ∷ ps) out = Give macros (with_header h headers) ps out
Give macros headers (Define m ∷ ps) out = (IsDefined (names_of macros) m.name → ⊥) × Give (m ∷ macros) headers ps out
Give macros headers (Pragma ∷ ps) out = Give macros headers ps out
Give macros headers (Token line l ∷ ps) out =
    (ls : List Lexeme) × (more : List AToken) × Become macros [] (l ∷ []) ls
    × (out ≡ map (placed line headers) ls ++ more) × Give macros headers ps more

-- The token becomes these others, which are put behind those before, each on this line and behind these headers.
abbrev pub Puts : List Macro → Lexeme → ℕ → Headers → List AToken → List AToken → Type 0
Puts macros l line headers before behind =
    (ls : List Lexeme) × Become macros [] (l ∷ []) ls × (behind ≡ before ++ map (placed line headers) ls)

-- ---- strings next to each other

abbrev pub is_text : TokenKind → Bool
is_text (kind.Keyword k) = false
is_text kind.Name = false
is_text (kind.Number t) = false
is_text kind.Character = false
is_text kind.Text = true
is_text (kind.Mark m) = false

-- the first of two strings, with the bytes of both
abbrev pub with_text : AToken → List ℕ → AToken
with_text t bytes = record { kind = t.kind; line = t.line; value = t.value; text = t.text ++ bytes; headers = t.headers }

abbrev pub before_joined : AToken → List AToken → List AToken
before_joined t [] = t ∷ []
before_joined t (u ∷ us) = if is_text t.kind && is_text u.kind then with_text t u.text ∷ us else t ∷ u ∷ us

-- Strings next to each other become one, on the line of the first.
abbrev pub joined : List AToken → List AToken
joined [] = []
joined (t ∷ ts) = before_joined t (joined ts)

-- ---- the answer of a source

-- a source's tokens, counted with strings not joined yet
abbrev pub most_tokens : ℕ
most_tokens = 2 ^ 20

-- n tokens, and what the token becomes, are too many
abbrev pub PassesMost : List Macro → Lexeme → ℕ → Type 0
PassesMost macros l count = (ls : List Lexeme) × Become macros [] (l ∷ []) ls × (most_tokens < count + length ls)

-- The source begins with these pieces, they are right, and they give n tokens.
pub record BeginsRight (source : List ℕ) (ps : List Piece) (out : List AToken) (rest : List ℕ) : Type 0 where
  pub pieces : BeginsWithPieces source ps rest
  pub give : Give [] no_headers ps out
  pub few : length out ≤ most_tokens

-- the source is these tokens
abbrev pub AreTokens : List ℕ → List AToken → Type 0
AreTokens source tokens = (ps : List Piece) × (out : List AToken) × BeginsRight source ps out [] × (tokens ≡ joined out)

-- Behind these pieces and tokens, the next token, or what a macro makes of it, is one too many.
abbrev pub IsTooMany : List ℕ → List Piece → List AToken → List ℕ → Type 0
IsTooMany source ps out text =
    (line : ℕ) × (l : Lexeme) × (rest : List ℕ) × IsPiece (is_first_after true ps) source text (Token line l) rest
    × PassesMost (macros_after [] ps) l (length out)

-- Of this cause, the first byte that offends in the source stands at this place, from 0 on.
pub record IsFault (source : List ℕ) (cause : Cause) (at : ℕ) : Type 0 where
  pub ps : List Piece
  pub out : List AToken
  pub front : List ℕ
  pub rest : List ℕ
  pub k : ℕ
  pub source_is : source ≡ front ++ rest
  pub right : BeginsRight source ps out rest
  pub bad : IsBadPiece (is_first_after true ps) (names_of (macros_after [] ps)) rest cause k
      ⊎ ((cause ≡ TooMany) × (k ≡ 0) × IsTooMany source ps out rest)
  pub at_is : at ≡ length front + k

-- What a source is: these tokens, or wrong at a byte.
pub data Answer : Type 0 where
  Tokens : List AToken → Answer
  Fault : Cause → ℕ → Answer

abbrev pub IsAnswer : List ℕ → Answer → Type 0
IsAnswer source (Tokens tokens) = AreTokens source tokens
IsAnswer source (Fault cause at) = IsFault source cause at

-- what an error says of the source; want of memory says nothing
abbrev pub fault_of : LexError → Option Answer
fault_of (error.BadByte at) = Some (Fault BadByte at)
fault_of (error.FloatLiteral at) = Some (Fault FloatLiteral at)
fault_of (error.OutWord at) = Some (Fault OutWord at)
fault_of (error.TooWide at) = Some (Fault TooWide at)
fault_of (error.Unclosed at) = Some (Fault Unclosed at)
fault_of (error.Directive at) = Some (Fault Directive at)
fault_of (error.TooMany at) = Some (Fault TooMany at)
fault_of error.Memory = None

-- The result tells this answer, unless memory runs out.
abbrev pub Gives : Result (Vec AToken Global) LexError → Answer → Type 0
Gives (Ok tokens) answer = answer ≡ Tokens tokens.items
Gives (Err e) answer = IfSome (fault_of e) (λ fault. answer ≡ fault)
