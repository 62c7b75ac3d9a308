-- What holds of code that is laid out as a program's.
use Rattle.std.specs.Prelude.{ℕ, ◌≡◌, ◌+◌, ◌^◌, ◌%◌, ◌≤◌, List, [], ◌∷◌, Some, take, slice_get}
use Rattle.rank_range.specs.Layout.{base_of, globals_start}
use Rattle.rank_range.specs.declared.run.Segment.{Segment}
use Rattle.c_types.specs.declared.program.Program.{Program}
use Rattle.c_types.specs.declared.program.Main.{Main}
use Rattle.c_types.specs.Need.{IsSimple}
use Rattle.vm_code.specs.declared.code.Code.{Code}
use Rattle.c_model.specs.Means.{Means}
use Rattle.vm_code.specs.declared.code.Function.{Function}
use Rattle.vm_code.specs.declared.instr.Instr.{Instr}
use Rattle.vm_code.specs.declared.instr.Instr.TheVariants.{Call}
use Rattle.vm_code.specs.Bounded.{LoopsTick}
use Rattle.vm_code.specs.Memory.{opened}
use Rattle.vm_code.specs.Machine.{Goes, start}
use Rattle.c_model.specs.Statements.{parameter_count}
use Rattle.codegen.specs.Statements.{IsCodeOf, program_part}
use Rattle.codegen.specs.Covered.{IsCovered}

-- Code that is laid out as a program's means the program, where it is covered and each need is at most what may be pending.
abbrev pub LaidOutCodeMeans : Type 0
LaidOutCodeMeans =
    (code : Code) (program : Program) (segment : Segment) (main : Main) → program.main ≡ Some main
    → IsCodeOf code program segment main → IsCovered program main → IsSimple program → Means code program segment main

-- Whatever the program, in instructions that are laid out as its code each jump that doesn't lead forward leads to a tick point.
abbrev pub LaidOutCodeIsBounded : Type 0
LaidOutCodeIsBounded =
    (instrs : List Instr) (program : Program) (segment : Segment) (main : Main)
    → instrs ≡ program_part program segment main 0 → LoopsTick instrs

-- The code begins with the call of `main`, which is there and has at most two parameters, and is called with 1 and the address at
-- which the segment starts. From there it goes on, on every rank.
pub record BeginsWithMain (code : Code) (program : Program) (segment : Segment) (main : Main) : Type 0 where
  pub callee : Function
  pub found : slice_get code.instrs 0 ≡ Some (Call main.function (parameter_count program main.function))
  pub few : parameter_count program main.function ≤ 2
  pub there : slice_get code.functions main.function ≡ Some callee
  pub goes : (rank : ℕ)
      → Goes code (start (opened segment rank)
      (take (parameter_count program main.function) (1 ∷ (base_of rank + globals_start) % 2 ^ 64 ∷ [])) 0 [])

-- So code that is laid out as a program's does, where it is covered and each need is at most what may be pending.
abbrev pub LaidOutCodeBegins : Type 0
LaidOutCodeBegins =
    (code : Code) (program : Program) (segment : Segment) (main : Main) → program.main ≡ Some main
    → IsCodeOf code program segment main → IsCovered program main → IsSimple program → BeginsWithMain code program segment main
