-- What holds of every machine: it has one way to go, and the line of a trap is told by what stands before it in the code.
use Rattle.std.specs.Prelude.{ℕ, ◌≡◌, ◌+◌, ◌≤◌, Some, take, slice_get}
use Rattle.vm_code.specs.declared.code.Code.{Code}
use Rattle.vm_code.specs.declared.instr.Instr.{Instr}
use Rattle.vm_code.specs.Stops.{Stop}
use Rattle.vm_code.specs.Lines.{place_of, told_by}
use Rattle.vm_code.specs.Machine.{Config, Stopped, exec}

-- A machine that has stopped stays so, whatever number of instructions it may take more.
abbrev pub StaysStopped : Type 0
StaysStopped =
    (code : Code) (c last : Config) (stop : Stop) (j k : ℕ)
    → exec code j c ≡ Stopped stop last → j ≤ k → exec code k c ≡ Stopped stop last

-- The line of a trap is the same in all code that has the same line of `main` and the same instructions before the place; and
-- behind an instruction it is what that one tells, or else as it was.
pub record TellsLines : Type 0 where
  pub before : (one other : Code) (place : ℕ) → one.unit ≡ other.unit → one.line ≡ other.line
      → take place one.instrs ≡ take place other.instrs → place_of one place ≡ place_of other place
  pub behind : (code : Code) (place : ℕ) (instr : Instr) → slice_get code.instrs place ≡ Some instr
      → place_of code (place + 1) ≡ told_by (place_of code place) instr
