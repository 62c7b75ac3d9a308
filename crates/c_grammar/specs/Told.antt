-- What is told of a token that isn't read: whether it isn't expected or stands too deep, by its place. Only private functions cite these
-- words.
use Rattle.std.specs.Prelude.{ℕ, ◌≡◌, ◌==◌, nat_lt, if◌then◌else◌, Bool, true, Result, Ok, Err, IsErr, List}
use Rattle.std.specs.List.{list_any}
use Rattle.std.specs.declared.alloc.AllocError.{AllocError}
use Rattle.c_lex.specs.declared.token.Token.{Token}
use Rattle.c_lex.specs.declared.token.TokenKind.{TokenKind}
use Rattle.c_ast.specs.declared.declaration.Unit.{Unit as AUnit}
use Rattle.c_grammar.specs.declared.error.ParseError.{ParseError}
use Rattle.c_grammar.specs.declared.error.ParseError.TheVariants as error
use Rattle.c_grammar.specs.Reading.{IsFault, Fault, Unexpected, TooNested, Outcome}
use Rattle.c_grammar.specs.ReadingStmt.{unit}
use Rattle.c_grammar.specs.Nests.{most}
use Rattle.c_grammar.specs.Brackets.{closes_innermost}
use Rattle.c_grammar.specs.Places.{kinds, with_token}

-- how deep tokens may nest
abbrev pub limit : ℕ
limit = 64

-- and how deep where it is to be seen whether a token is expected
abbrev pub deeper : ℕ
deeper = 68

-- the reading takes the token of this number
abbrev pub takes_token : ℕ → Outcome AUnit → Bool
takes_token k (Ok u) = true
takes_token k (Err (Unexpected j)) = nat_lt k j
takes_token k (Err (TooNested j)) = nat_lt k j

-- what was read, and whether it took that token, unless memory ran out
abbrev pub IsTaken : ℕ → Result AUnit ParseError → Result Bool AllocError → Type 0
IsTaken k (Ok u) result = result ≡ Ok true
IsTaken k (Err (error.Unexpected j)) result = result ≡ Ok (nat_lt k j)
IsTaken k (Err (error.TooNested j)) result = result ≡ Ok (nat_lt k j)
IsTaken k (Err error.Memory) result = IsErr result

-- a token of this kind can stand at this place
abbrev pub stands_at : List Token → ℕ → TokenKind → Bool
stands_at ts k of = takes_token k (unit most limit (with_token ts k of))

-- one of them can
unfoldable pub has_place : List Token → ℕ → Bool
has_place ts k = list_any (stands_at ts k) kinds

-- a token that nothing goes on with, by its place
unfoldable pub placed : List Token → ℕ → Fault
placed ts k =
    if closes_innermost ts k then Unexpected k else (if has_place ts k then Unexpected k else TooNested k)

-- a token that was read as too deep, by what is read with more room
abbrev pub told_by : List Token → ℕ → Outcome AUnit → Fault
told_by ts k (Ok u) = TooNested k
told_by ts k (Err (TooNested j)) = TooNested k
told_by ts k (Err (Unexpected j)) = if j == k then placed ts k else TooNested k

unfoldable pub told : List Token → ℕ → Fault
told ts k = told_by ts k (unit most deeper ts)

-- what was answered is an error that tells this fault, unless memory ran out
abbrev pub IsErrBy : Result AUnit ParseError → Fault → Type 0
IsErrBy (Ok u) fault = ⊥
IsErrBy (Err e) fault = IsFault e fault

-- what is answered where this was read
abbrev pub Settles : List Token → Result AUnit ParseError → Result AUnit ParseError → Type 0
Settles ts (Ok u) result = result ≡ Ok u
Settles ts (Err (error.TooNested k)) result = IsErrBy result (told ts k)
Settles ts (Err (error.Unexpected k)) result = IsErrBy result (placed ts k)
Settles ts (Err error.Memory) result = result ≡ Err error.Memory
