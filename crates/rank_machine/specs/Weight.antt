-- How far a machine is from its next tick point, and so how long a run can still be.
use Rattle.std.specs.Prelude.{ℕ, ◌+◌, ◌-◌, ◌*◌, if◌then◌else◌, List, length, slice_get}
use Rattle.vm_code.specs.declared.instr.Instr.{Instr}
use Rattle.vm_code.specs.Bounded.{is_tick}

-- The instructions from a place to the end, for the innermost call and once more for each call under it; none at a tick point.
abbrev pub distance : List Instr → ℕ → ℕ → ℕ
distance instrs calls place =
    if is_tick (slice_get instrs place) then 0 else calls * (length instrs + 1) + (length instrs - place)

-- Jumps back and calls lead to tick points, and at most 256 calls are under way: so this falls at each instruction.
abbrev pub weight : List Instr → ℕ → ℕ → ℕ → ℕ
weight instrs left calls place = left * (256 * (length instrs + 1)) + distance instrs calls place
