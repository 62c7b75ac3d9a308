-- Which token shows that tokens are no unit.
use Rattle.std.specs.Prelude.{ℕ, suc, true, false, ◌≡◌, ◌<◌, ◌≤◌, ◌⊎◌, ◌++◌, Option, Some, None, List, length, take}
use Rattle.c_lex.specs.declared.token.Token.{Token}
use Rattle.c_ast.specs.declared.declaration.Unit.{Unit as AUnit}
use Rattle.c_grammar.specs.declared.error.ParseError.{ParseError}
use Rattle.c_grammar.specs.declared.error.ParseError.TheVariants as error
use Rattle.c_grammar.specs.Grammar.{Parses, ParsesWithin}
use Rattle.c_grammar.specs.Nesting.{Begins}
use Rattle.c_grammar.specs.Brackets.{closes_innermost}
use Rattle.c_grammar.specs.Places.{HasPlace}

-- some unit begins with these tokens, whatever its nesting and its chains
pub record BeginsSome (front : List Token) : Type 0 where
  pub more : List Token
  pub unit : AUnit
  pub parses : Parses (front ++ more) unit

-- Some unit goes on with token number k behind those before it, all of them within the limits. The end counts as the last token.
abbrev pub GoesOn : ℕ → ℕ → List Token → ℕ → Type 0
GoesOn limit most ts k =
    ((k < length ts) × Begins limit most (take (suc k) ts)) ⊎ ((k ≡ length ts) × ((unit : AUnit) × ParsesWithin limit most ts unit))

-- some unit does, whatever its nesting and its chains
abbrev pub GoesOnSomehow : List Token → ℕ → Type 0
GoesOnSomehow ts k = ((k < length ts) × BeginsSome (take (suc k) ts)) ⊎ ((k ≡ length ts) × ((unit : AUnit) × Parses ts unit))

-- Token number k is the first that no unit within the limits goes on with.
pub record IsRefused (limit most : ℕ) (ts : List Token) (k : ℕ) : Type 0 where
  pub there : k ≤ length ts
  pub before : Begins limit most (take k ts)
  pub stops : GoesOn limit most ts k → ⊥

-- It isn't expected: no unit at all goes on with it, and its place isn't too deep, or it closes the innermost bracket.
abbrev pub IsUnexpected : ℕ → ℕ → List Token → ℕ → Type 0
IsUnexpected limit most ts k = (GoesOnSomehow ts k → ⊥) × ((closes_innermost ts k ≡ true) ⊎ HasPlace limit most ts k)

-- It stands too deep: some unit goes on with it, or its place is too deep for any token.
abbrev pub IsTooNested : ℕ → ℕ → List Token → ℕ → Type 0
IsTooNested limit most ts k = GoesOnSomehow ts k ⊎ ((closes_innermost ts k ≡ false) × (HasPlace limit most ts k → ⊥))

-- the token that an error tells
abbrev pub token_of : ParseError → Option ℕ
token_of (error.Unexpected k) = Some k
token_of (error.TooNested k) = Some k
token_of error.Memory = None

-- the token that an error tells as one that isn't expected
abbrev pub unexpected_of : ParseError → Option ℕ
unexpected_of (error.Unexpected k) = Some k
unexpected_of (error.TooNested k) = None
unexpected_of error.Memory = None

-- the token that an error tells as one that stands too deep
abbrev pub nested_of : ParseError → Option ℕ
nested_of (error.Unexpected k) = None
nested_of (error.TooNested k) = Some k
nested_of error.Memory = None
