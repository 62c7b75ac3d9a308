-- What a list of tokens is: a unit within the limits, or tokens of which one is the first that is refused, for one of two causes.
use Rattle.std.specs.Prelude.{ℕ, ◌≡◌, Result, Ok, Err, List}
use Rattle.c_lex.specs.declared.token.Token.{Token}
use Rattle.c_ast.specs.declared.declaration.Unit.{Unit as AUnit}
use Rattle.c_grammar.specs.declared.error.ParseError.{ParseError}
use Rattle.c_grammar.specs.declared.error.ParseError.TheVariants as error
use Rattle.c_grammar.specs.Grammar.{ParsesWithin}
use Rattle.c_grammar.specs.Refusals.{IsRefused, IsUnexpected, IsTooNested}

pub data Answer : Type 0 where
  Whole : AUnit → Answer
  Unexpected : ℕ → Answer
  TooNested : ℕ → Answer

abbrev pub IsAnswer : ℕ → ℕ → List Token → Answer → Type 0
IsAnswer limit most ts (Whole unit) = ParsesWithin limit most ts unit
IsAnswer limit most ts (Unexpected k) = IsRefused limit most ts k × IsUnexpected limit most ts k
IsAnswer limit most ts (TooNested k) = IsRefused limit most ts k × IsTooNested limit most ts k

-- The result tells this answer, unless memory runs out.
abbrev pub Gives : Result AUnit ParseError → Answer → Type 0
Gives (Ok unit) answer = answer ≡ Whole unit
Gives (Err (error.Unexpected k)) answer = answer ≡ Unexpected k
Gives (Err (error.TooNested k)) answer = answer ≡ TooNested k
Gives (Err error.Memory) answer = Unit {0}
