-- A function value that reads what stands one level further in.
use Rattle.std.specs.Prelude.{ℕ, ◌≡◌, Result}
use Rattle.std.specs.declared.alloc.Global.{Global}
use denote.Ref.{MutBor}
use Rattle.c_grammar.specs.declared.cursor.Cursor.{Cursor}
use Rattle.c_grammar.specs.declared.error.ParseError.{ParseError}
use Rattle.c_grammar.specs.declared.error.ParseError.TheVariants as error
use Rattle.c_grammar.specs.declared.phrases.Wanted.{Wanted}
use Rattle.c_grammar.specs.declared.phrases.Phrase.{Phrase}
use Rattle.c_grammar.specs.Reading.{State, Gives, Fault, Unexpected, TooNested}
use Rattle.c_grammar.specs.Inner.{phrase_of}
use Rattle.c_grammar.specs.Levels.{readers}

-- how many operators a chain may have
abbrev pub most : ℕ
most = 512

abbrev pub state_of : Cursor → State
state_of c = record { names = c.names; rest = c.rest.now }

-- the error that tells a fault
abbrev pub error_of : Fault → ParseError
error_of (Unexpected token) = error.Unexpected token
error_of (TooNested token) = error.TooNested token

-- what was read, with the state behind it
abbrev pub seen : {A : Type 0} → Cursor → A → A × State
seen c a = (a, state_of c)

pub record Nests (room : ℕ) (pre : Global → MutBor Cursor → ℕ → Wanted → Type 0)
    (post : Global → MutBor Cursor → ℕ → Wanted → Result Phrase ParseError → MutBor Cursor → Type 0) : Type 0 where
  pub callable : (alloc : Global) (old : MutBor Cursor) (w : Wanted) → pre alloc old room w
  pub reads : (alloc : Global) (old new : MutBor Cursor) (w : Wanted) (r : Result Phrase ParseError) → post alloc old room w r new
      → Gives (seen new.now) r (phrase_of (readers old.now.total most room) w (state_of old.now))
  pub total : (alloc : Global) (old new : MutBor Cursor) (w : Wanted) (r : Result Phrase ParseError) → post alloc old room w r new
      → new.now.total ≡ old.now.total
