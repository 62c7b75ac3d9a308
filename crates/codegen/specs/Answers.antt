-- What is answered to a program: its code, or why there is none.
use Rattle.std.specs.Prelude.{◌≡◌, ◌⊎◌, ◌≤◌, ◌^◌, length, None, Some, Result, Ok, Err}
use Rattle.rank_range.specs.declared.run.Segment.{Segment}
use Rattle.c_types.specs.declared.program.Program.{Program}
use Rattle.c_types.specs.declared.program.Main.{Main}
use Rattle.c_types.specs.Need.{IsSimple, IsTooComplex}
use Rattle.vm_code.specs.declared.code.Code.{Code}
use Rattle.c_model.specs.Means.{Means}
use Rattle.codegen.specs.declared.error.GenError.{GenError}
use Rattle.codegen.specs.declared.error.GenError.TheVariants.{TooComplex, NoMain, NotCovered, TooLong, Memory}
use Rattle.codegen.specs.Statements.{IsCodeOf, program_part}
use Rattle.codegen.specs.Covered.{IsCovered}

-- Nowhere are more values pending than may be, and this is the `main`, which is covered.
pub record IsReady (program : Program) (main : Main) : Type 0 where
  pub simple : IsSimple program
  pub main_is : program.main ≡ Some main
  pub covered : IsCovered program main

-- Its code is laid out as the program's, and means the program.
pub record IsMade (code : Code) (program : Program) (segment : Segment) : Type 0 where
  pub main : Main
  pub ready : IsReady program main
  pub laid_out : IsCodeOf code program segment main
  pub means : Means code program segment main

-- The code would have 2^32 instructions or more.
pub record IsTooLong (program : Program) (segment : Segment) : Type 0 where
  pub main : Main
  pub ready : IsReady program main
  pub long : 2 ^ 32 ≤ length (program_part program segment main 0)

-- The program has a `main`, which isn't covered.
pub record IsNotCovered (program : Program) : Type 0 where
  pub simple : IsSimple program
  pub main : Main
  pub main_is : program.main ≡ Some main
  pub not_covered : IsCovered program main → ⊥

-- Why there is no code. These exclude each other, and memory is asked for only where the program is ready.
abbrev pub Refuses : Program → Segment → GenError → Type 0
Refuses program segment (TooComplex unit token) = IsTooComplex program (record { unit = unit; token = token })
Refuses program segment NoMain = IsSimple program × (program.main ≡ None)
Refuses program segment NotCovered = IsNotCovered program
Refuses program segment TooLong = IsTooLong program segment
Refuses program segment Memory = (main : Main) × IsReady program main

abbrev pub Answers : Program → Segment → Result Code GenError → Type 0
Answers program segment (Ok code) = IsMade code program segment
Answers program segment (Err e) = Refuses program segment e

-- what is told of a program before its code is made
abbrev pub Checks : Program → Result Main GenError → Type 0
Checks program (Ok main) = IsReady program main
Checks program (Err (TooComplex unit token)) = IsTooComplex program (record { unit = unit; token = token })
Checks program (Err NoMain) = IsSimple program × (program.main ≡ None)
Checks program (Err NotCovered) = IsNotCovered program
Checks program (Err TooLong) = ⊥
Checks program (Err Memory) = ⊥

-- what the making of its code gives
abbrev pub Makes : Program → Segment → Main → Result Code GenError → Type 0
Makes program segment main (Ok code) = IsCodeOf code program segment main
Makes program segment main (Err TooLong) = 2 ^ 32 ≤ length (program_part program segment main 0)
Makes program segment main (Err Memory) = Unit {0}
Makes program segment main (Err _) = ⊥

-- A refusal that is true is answered, unless memory runs out.
abbrev pub RefusalsAreAnswered : Type 0
RefusalsAreAnswered =
    (program : Program) (segment : Segment) (answer : Result Code GenError) (e : GenError) → Answers program segment answer → Refuses program segment e
    → (e ≡ Memory → ⊥) → (answer ≡ Err e) ⊎ (answer ≡ Err Memory)

-- Whatever the program and its segment, there is an answer that doesn't tell of memory.
abbrev pub SomeAnswerIsThere : Type 0
SomeAnswerIsThere = (program : Program) (segment : Segment) → (answer : Result Code GenError) × Answers program segment answer × (answer ≡ Err Memory → ⊥)
