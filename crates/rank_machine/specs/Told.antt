-- The line of a trap, as the code finds it.
use Rattle.std.specs.Prelude.{ℕ, ◌≡◌, ◌≤◌, Option, Some, None, length, reverse, take, slice_get}
use Rattle.vm_code.specs.declared.code.Code.{Code}
use Rattle.vm_code.specs.Lines.{Place, place_of}
use Rattle.vm_code.specs.declared.instr.Instr.TheVariants as instr
use Rattle.rank_range.specs.declared.run.CallOut.{CallOut}
use Rattle.rank_machine.specs.declared.lines.Line.{Line}
use Rattle.rank_machine.specs.declared.work.Work.{Work}
use Rattle.rank_machine.specs.declared.halt.Halt.TheVariants as halt
use Rattle.rank_machine.specs.declared.halt.Rest.{Rest}
use Rattle.rank_machine.specs.declared.halt.Rest.TheVariants as rest
use Rattle.rank_machine.specs.declared.stop.Stop.{Stop}
use Rattle.rank_machine.specs.declared.stop.Stop.TheVariants as stop
use Rattle.rank_machine.specs.Runs.{AtCall}

-- what an instruction tells, or what was told before it
abbrev pub told_or : Place → Option Line → Place
told_or before None = before
told_or before (Some told) = record { unit = told.unit; line = told.line }

abbrev pub line_at : Code → ℕ → Line
line_at code place = record { unit = (place_of code place).unit; line = (place_of code place).line }

-- what must hold where it is told of a machine at rest: it isn't lost, and at a call of MPI it stands at one
abbrev pub NeedsCall : Code → Work → Rest → Type 0
NeedsCall code work (rest.Halted (halt.Returned status)) = Unit {0}
NeedsCall code work (rest.Halted (halt.Exited status)) = Unit {0}
NeedsCall code work (rest.Halted (halt.Trapped cause)) = Unit {0}
NeedsCall code work (rest.Halted halt.Lost) = ⊥
NeedsCall code work rest.Paused = Unit {0}
NeedsCall code work rest.Memory = Unit {0}
NeedsCall code work rest.Calls = AtCall code work.place work.operands

-- The call of MPI at the machine's place, with its arguments.
pub record TellsCall (code : Code) (work : Work) (call : CallOut) : Type 0 where
  pub count : ℕ
  pub found : slice_get code.instrs work.place ≡ Some (instr.Mpi call.call count call.second)
  pub enough : count ≤ length work.operands
  pub arguments : call.arguments ≡ reverse (take count work.operands)
  pub unit : call.unit ≡ (place_of code work.place).unit
  pub line : call.line ≡ (place_of code work.place).line

-- What is told of a machine at rest. At a call of MPI the host may have no memory for its arguments.
abbrev pub Tells : Code → Work → Rest → Stop → Type 0
Tells code work (rest.Halted (halt.Returned status)) told = told ≡ stop.Ended status
Tells code work (rest.Halted (halt.Exited status)) told = told ≡ stop.Ended status
Tells code work (rest.Halted (halt.Trapped cause)) told = told ≡ stop.Trap cause (place_of code work.place).unit (place_of code work.place).line
Tells code work (rest.Halted halt.Lost) told = ⊥
Tells code work rest.Paused told = told ≡ stop.Paused
Tells code work rest.Memory told = told ≡ stop.Memory
Tells code work rest.Calls (stop.Call call) = TellsCall code work call
Tells code work rest.Calls stop.Memory = Unit {0}
Tells code work rest.Calls stop.Paused = ⊥
Tells code work rest.Calls (stop.Ended status) = ⊥
Tells code work rest.Calls (stop.Trap cause unit line) = ⊥
