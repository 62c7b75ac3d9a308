-- At which line of which unit a trap in code is told: that of the nearest tick point before the instruction in the code,
-- and before the first one that of the name `main`.
use Rattle.std.specs.Prelude.{ℕ, List, [], ◌∷◌, take}
use Rattle.vm_code.specs.declared.code.Code.{Code}
use Rattle.vm_code.specs.declared.instr.Instr.{Instr}
use Rattle.vm_code.specs.declared.instr.Instr.TheVariants.{Tick}

pub record Place : Type 0 where
  pub unit : ℕ
  pub line : ℕ

-- what an instruction tells of the line of those behind it
abbrev pub told_by : Place → Instr → Place
told_by before (Tick unit line) = record { unit = unit; line = line }
told_by before _ = before

abbrev pub told_behind : Place → List Instr → Place
told_behind before [] = before
told_behind before (i ∷ is) = told_behind (told_by before i) is

unfoldable pub place_of : Code → ℕ → Place
place_of code place = told_behind (record { unit = code.unit; line = code.line }) (take place code.instrs)
