-- How parts are read from the front of the tokens: each reader gives what it finds there and the state behind it, or the token at
-- which it stops. Only private functions cite these words.
use Rattle.std.specs.Prelude.{ℕ, ◌≡◌, if◌then◌else◌, Bool, true, false, Option, Some, None, Result, Ok, Err, List, [], ◌∷◌}
use Rattle.c_lex.specs.declared.token.Token.{Token}
use Rattle.c_lex.specs.declared.token.TokenKind.{TokenKind}
use Rattle.c_lex.specs.declared.token.TokenKind.TheVariants as kind
use Rattle.c_lex.specs.declared.token.Keyword.{Keyword}
use Rattle.c_lex.specs.declared.token.Mark.{Mark}
use Rattle.c_lex.specs.contracts.token.Mark as mark_contract
use Rattle.c_lex.specs.contracts.token.Keyword as keyword_contract
use denote.Enum.Bare.{sameb}
use Rattle.c_ast.specs.declared.words.Name.{Name}
use Rattle.c_grammar.specs.declared.error.ParseError.{ParseError}
use Rattle.c_grammar.specs.declared.error.ParseError.TheVariants as error
use Rattle.c_grammar.specs.Names.{Names}
use Rattle.c_grammar.specs.Words.{number_of}

-- ---- readers

-- the names in scope, and the tokens that are left
pub record State : Type 0 where
  pub names : Names
  pub rest : List Token

-- the first token that can't stand where it does, or stands too deep
pub data Fault : Type 0 where
  Unexpected : ℕ → Fault
  TooNested : ℕ → Fault

abbrev pub Outcome : Type 0 → Type 0
Outcome A = Result A Fault

abbrev pub Reader : Type 0 → Type 0
Reader A = State → Outcome (A × State)

infixl 10 ◌>>=◌
abbrev pub ◌>>=◌ : {A B : Type 0} → Outcome A → (A → Outcome B) → Outcome B
Ok a >>= f = f a
Err e >>= f = Err e

-- What a function of the parser returned, seen by a view, is what reading gives, unless memory ran out.
abbrev pub IsFault : ParseError → Fault → Type 0
IsFault (error.Unexpected token) fault = fault ≡ Unexpected token
IsFault (error.TooNested token) fault = fault ≡ TooNested token
IsFault error.Memory fault = Unit {0}

abbrev pub FailsBy : {Y : Type 0} → ParseError → Outcome Y → Type 0
FailsBy error.Memory outcome = Unit {0}
FailsBy (error.Unexpected token) outcome = outcome ≡ Err (Unexpected token)
FailsBy (error.TooNested token) outcome = outcome ≡ Err (TooNested token)

abbrev pub Gives : {X Y : Type 0} → (X → Y) → Result X ParseError → Outcome Y → Type 0
Gives view (Ok x) outcome = outcome ≡ Ok (view x)
Gives view (Err e) outcome = FailsBy e outcome

-- ---- tokens

abbrev pub same_mark : Mark → Mark → Bool
same_mark = sameb mark_contract.the_type

abbrev pub same_keyword : Keyword → Keyword → Bool
same_keyword = sameb keyword_contract.the_type

abbrev pub is_mark : Mark → TokenKind → Bool
is_mark m (kind.Mark n) = same_mark n m
is_mark m (kind.Keyword k) = false
is_mark m kind.Name = false
is_mark m (kind.Number t) = false
is_mark m kind.Character = false
is_mark m kind.Text = false

abbrev pub is_keyword : Keyword → TokenKind → Bool
is_keyword k (kind.Keyword l) = same_keyword l k
is_keyword k (kind.Mark n) = false
is_keyword k kind.Name = false
is_keyword k (kind.Number t) = false
is_keyword k kind.Character = false
is_keyword k kind.Text = false

abbrev pub is_name : TokenKind → Bool
is_name kind.Name = true
is_name (kind.Mark n) = false
is_name (kind.Keyword k) = false
is_name (kind.Number t) = false
is_name kind.Character = false
is_name kind.Text = false

-- this punctuator, or this keyword, comes next
abbrev pub sees_mark : Mark → List Token → Bool
sees_mark m [] = false
sees_mark m (t ∷ ts) = is_mark m t.kind

abbrev pub sees_keyword : Keyword → List Token → Bool
sees_keyword k [] = false
sees_keyword k (t ∷ ts) = is_keyword k t.kind

abbrev pub tail : List Token → List Token
tail [] = []
tail (t ∷ ts) = ts

abbrev pub behind : State → State
behind s = record { names = s.names; rest = tail s.rest }

-- the number of the next token
abbrev pub here : ℕ → State → ℕ
here total s = number_of total s.rest

-- behind this punctuator, which has to come next
unfoldable pub expect_mark : ℕ → Mark → State → Outcome State
expect_mark total m s = if sees_mark m s.rest then Ok (behind s) else Err (Unexpected (here total s))

unfoldable pub expect_keyword : ℕ → Keyword → State → Outcome State
expect_keyword total k s = if sees_keyword k s.rest then Ok (behind s) else Err (Unexpected (here total s))

abbrev pub name_at_front : ℕ → List Token → Option Name
name_at_front total [] = None
name_at_front total (t ∷ ts) = if is_name t.kind then Some (record { token = number_of total (t ∷ ts); text = t.text }) else None

abbrev pub or_unexpected : {A : Type 0} → ℕ → State → Option A → Outcome (A × State)
or_unexpected total s (Some a) = Ok (a, behind s)
or_unexpected total s None = Err (Unexpected (here total s))

-- any name, which has to come next
unfoldable pub expect_name : ℕ → Reader Name
expect_name total s = or_unexpected total s (name_at_front total s.rest)

-- the kind of the next token
abbrev pub kind_at : List Token → Option TokenKind
kind_at [] = None
kind_at (t ∷ ts) = Some t.kind
