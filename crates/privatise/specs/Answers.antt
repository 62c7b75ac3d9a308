-- What an answer says of the program.
use Rattle.std.specs.Prelude.{◌≡◌, ◌⊎◌, Result, Ok, Err}
use Rattle.rank_range.specs.declared.run.Segment.{Segment}
use Rattle.c_types.specs.declared.program.Program.{Program}
use Rattle.c_types.specs.declared.program.TokenAt.{TokenAt}
use Rattle.c_types.specs.Segment.{Refusal, IsRefused, SegmentOf}
use Rattle.c_types.specs.Segment as refusal
use Rattle.privatise.specs.declared.error.SegError.{SegError}
use Rattle.privatise.specs.declared.error.SegError.TheVariants.{TooLarge, Undefined, Twice, Memory}

abbrev pub error_of : Refusal → TokenAt → SegError
error_of refusal.TooLarge at = TooLarge at.unit at.token
error_of refusal.Undefined at = Undefined at.unit at.token
error_of refusal.Twice at = Twice at.unit at.token

-- The program has this first refusal. Want of memory says nothing of the program.
abbrev pub IsWhy : Program → SegError → Type 0
IsWhy program (TooLarge unit token) = IsRefused program refusal.TooLarge (record { unit = unit; token = token })
IsWhy program (Undefined unit token) = IsRefused program refusal.Undefined (record { unit = unit; token = token })
IsWhy program (Twice unit token) = IsRefused program refusal.Twice (record { unit = unit; token = token })
IsWhy program Memory = Unit {0}

-- Unless memory runs out, the program's segment or its first refusal is told, whichever it has.
pub record IsTold (program : Program) (answer : Result Segment SegError) : Type 0 where
  pub segment : (segment : Segment) → SegmentOf program segment → (answer ≡ Ok segment) ⊎ (answer ≡ Err Memory)
  pub refused : (why : Refusal) (at : TokenAt) → IsRefused program why at → (answer ≡ Err (error_of why at)) ⊎ (answer ≡ Err Memory)

-- Each program has a segment or a first refusal.
abbrev pub HasAnswer : Program → Type 0
HasAnswer program =
    ((segment : Segment) × SegmentOf program segment)
    ⊎ ((why : Refusal) × ((at : TokenAt) × IsRefused program why at))
