-- A static fact of code: its loops and its functions have tick points.
use Rattle.std.specs.Prelude.{ℕ, ◌≡◌, ◌≤◌, Bool, true, false, List, Option, Some, None, slice_get}
use Rattle.vm_code.specs.declared.instr.Instr.{Instr}
use Rattle.vm_code.specs.declared.instr.Instr.TheVariants.{Jump, JumpIfZero, JumpIfNot, Tick, Call, Library, Mpi}

-- the place to which an instruction may jump
abbrev pub target_of : Option Instr → Option ℕ
target_of (Some (Jump p)) = Some p
target_of (Some (JumpIfZero p)) = Some p
target_of (Some (JumpIfNot p)) = Some p
target_of _ = None

-- whether it is a tick point
abbrev pub is_tick : Option Instr → Bool
is_tick (Some (Tick unit line)) = true
is_tick (Some (Call function arguments)) = true
is_tick (Some (Library call arguments)) = true
is_tick (Some (Mpi call arguments second)) = true
is_tick _ = false

-- each jump that doesn't lead forward leads to a tick point
abbrev pub LoopsTick : List Instr → Type 0
LoopsTick instrs = (p q : ℕ) → target_of (slice_get instrs p) ≡ Some q → q ≤ p → is_tick (slice_get instrs q) ≡ true

abbrev pub IsBounded : List Instr → Type 0
IsBounded instrs = ∥ LoopsTick instrs ∥₁
