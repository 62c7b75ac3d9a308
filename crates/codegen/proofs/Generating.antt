-- What is answered to a program, from what its steps tell.
use Rattle.std.proofs.Common.{◌≡◌, ℕ, ◌+◌, ◌<◌, ◌≤◌, ◌^◌, List, [], ◌++◌, length, sym, ap, ◌∙◌, arith}
use Rattle.std.specs.Prelude.{Option, None, Some, Result, Ok, Err}
use Rattle.rank_range.specs.declared.run.Segment.{Segment}
use Rattle.vm_code.specs.declared.code.Code.{Code}
use Rattle.vm_code.specs.declared.code.Function.{Function as CodeFunction}
use Rattle.vm_code.specs.Bounded.{IsBounded}
use Rattle.c_types.specs.declared.program.Program.{Program}
use Rattle.c_types.specs.declared.program.Main.{Main}
use Rattle.c_types.specs.declared.program.TokenAt.{TokenAt}
use Rattle.c_types.specs.Need.{IsSimple, IsTooComplex}
use Rattle.codegen.specs.declared.draft.Draft.{Draft}
use Rattle.codegen.specs.declared.error.GenError.{GenError}
use Rattle.codegen.specs.declared.error.GenError.TheVariants.{TooComplex, NoMain, NotCovered, TooLong, Memory}
use Rattle.codegen.specs.Statements.{entries_from, offset_in, program_part, IsCodeOf}
use Rattle.codegen.specs.Making.{Adds}
use Rattle.codegen.specs.Checking.{found_in_all}
use Rattle.codegen.specs.Answers.{IsReady, Refuses, Answers, Checks, Makes}
use Rattle.codegen.proofs.Least.{found_is_first}
use Rattle.codegen.proofs.Meaning.{means_program}
use Rattle.codegen.proofs.Bounding.{loops_tick}

-- ---- what is told before

pub too_complex : (program : Program) (f : Option TokenAt) (at : TokenAt) → f ≡ found_in_all None program.functions → f ≡ Some at → IsTooComplex program at
too_complex program f at is some =
    let first = found_is_first program (Some at) (sym some ∙ is) in
    record { past = first.0; first = first.1 }

pub simple : (program : Program) (f : Option TokenAt) → f ≡ found_in_all None program.functions → f ≡ None → IsSimple program
simple program f is none = found_is_first program None (sym none ∙ is)

-- ---- the code

-- what was added to an empty draft
alone : (d0 d1 : Draft) (program : Program) (segment : Segment) (main : Main) → d0.instrs ≡ [] → Adds d0 d1 (program_part program segment main)
    → length d1.instrs < 2 ^ 32 → d1.instrs ≡ program_part program segment main 0
alone d0 d1 program segment main none x short =
    x.instrs short ∙ ap (λ l. l ++ program_part program segment main (length l)) none

pub too_long : (d0 d1 : Draft) (program : Program) (segment : Segment) (main : Main) (n : ℕ) → d0.instrs ≡ [] → Adds d0 d1 (program_part program segment main)
    → n ≡ length d1.instrs → 4294967296 ≤ n → 2 ^ 32 ≤ length (program_part program segment main 0)
too_long d0 d1 program segment main n none x n_is long =
    let count = x.count in
    let empty : length d0.instrs ≡ 0 = ap length none in
    let same : length (program_part program segment main (length d0.instrs)) ≡ length (program_part program segment main 0) =
    ap (λ place. length (program_part program segment main place)) empty in
    omega (arith, n_is, long, count, empty, same)

pub is_bounded : (d0 d1 : Draft) (program : Program) (segment : Segment) (main : Main) → d0.instrs ≡ [] → Adds d0 d1 (program_part program segment main)
    → length d1.instrs < 2 ^ 32 → IsBounded d1.instrs
is_bounded d0 d1 program segment main none x short =
    ∣ loops_tick d1.instrs program segment main (alone d0 d1 program segment main none x short) ∣₁

pub is_code : (d0 d1 : Draft) (program : Program) (segment : Segment) (main : Main) (code : Code) (fs : List CodeFunction) → d0.instrs ≡ [] → Adds d0 d1 (program_part program segment main)
    → length d1.instrs < 2 ^ 32 → (length d1.instrs < 2 ^ 32 → fs ≡ entries_from (offset_in segment) (length d0.instrs + 1) program.functions)
    → code.instrs ≡ d1.instrs → code.functions ≡ fs → code.unit ≡ main.unit → code.line ≡ main.line → IsCodeOf code program segment main
is_code d0 d1 program segment main code fs none x short fs_are instrs_are functions_are unit_is line_is = record {
  instrs = instrs_are ∙ alone d0 d1 program segment main none x short;
  functions = functions_are ∙ fs_are short ∙ ap (λ l. entries_from (offset_in segment) (length l + 1) program.functions) none;
  unit_is = unit_is;
  line_is = line_is;
}

-- ---- the answer

pub refused : (program : Program) (segment : Segment) (e : GenError) → Checks program (Err e) → Refuses program segment e
refused program segment (TooComplex unit token) h = h
refused program segment NoMain h = h
refused program segment NotCovered h = h
refused program segment TooLong h = absurd h
refused program segment Memory h = absurd h

pub answered : (program : Program) (segment : Segment) (main : Main) (r : Result Code GenError) → IsReady program main → Makes program segment main r → Answers program segment r
answered program segment main (Ok code) ready made =
    record { main = main; ready = ready; laid_out = made; means = means_program code program segment main ready.main_is made ready.covered ready.simple }
answered program segment main (Err (TooComplex unit token)) ready made = absurd made
answered program segment main (Err NoMain) ready made = absurd made
answered program segment main (Err NotCovered) ready made = absurd made
answered program segment main (Err TooLong) ready made = record { main = main; ready = ready; long = made }
answered program segment main (Err Memory) ready made = (main, ready)
