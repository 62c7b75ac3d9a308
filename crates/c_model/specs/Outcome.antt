-- What a run on one rank gives, and the ways in which a rest of a run is put together.
use Rattle.std.specs.Prelude.{ℕ, zero, suc, if◌then◌else◌, nat_eq, List, Option, None, Some, Result, Ok, Err}
use Rattle.am_base.specs.declared.traps.TrapCause.{TrapCause}
use Rattle.am_base.specs.declared.traps.TrapCause.TheVariants.{BadAddress, TextLimit}
use Rattle.mpi_types.specs.declared.call.Answer.{Answer}
use Rattle.rank_range.specs.Areas.{Memory}
use Rattle.vm_code.specs.Stops.{Stop, Paused, Trapped, Done, with_ticks, fits_text, printed}

-- What a run gives: how it stands, and what it has done.
pub record Outcome : Type 0 where
  pub stop : Stop
  pub done : Done

-- The rest of a run: from the ticks that are left, the answers that are left and what was done, to its outcome.
abbrev pub Rest : Type 0
Rest = ℕ → List Answer → Done → Outcome

-- the run stops here
abbrev pub stops : Stop → Rest
stops stop left answers done = record { stop = stop; done = done }

-- Where an action stands: in a frame that begins at this offset of the range, at this line of this unit.
pub record Here : Type 0 where
  pub frame : ℕ
  pub unit : ℕ
  pub line : ℕ

abbrev pub traps : TrapCause → Here → Rest
traps cause here = stops (Trapped cause here.unit here.line)

-- a tick point: paused where no tick is left, else the tick is taken and the run goes on
abbrev pub tick : Rest → Rest
tick next zero answers done = stops Paused zero answers done
tick next (suc left) answers done = next left answers (with_ticks done)

-- goes on with what there is in memory
abbrev pub with_memory : (Memory → Rest) → Rest
with_memory next left answers done = next done.memory left answers done

abbrev pub set_memory : Memory → Rest → Rest
set_memory memory next left answers done = next left answers (record done { memory = memory })

-- goes on with what was read, or is trapped where its bytes aren't all in one accessible area
abbrev pub reading : Option ℕ → Here → (ℕ → Rest) → Rest
reading None here next = traps BadAddress here
reading (Some word) here next = next word

-- goes on with the memory that was written to, or is trapped
abbrev pub writing : Option Memory → Here → Rest → Rest
writing None here next = traps BadAddress here
writing (Some memory) here next = set_memory memory next

-- goes on with what an operator gives, or is trapped
abbrev pub with_result : Result ℕ TrapCause → Here → (ℕ → Rest) → Rest
with_result (Ok word) here next = next word
with_result (Err cause) here next = traps cause here

-- the first where the word isn't 0, and else the second
abbrev pub choose : ℕ → Rest → Rest → Rest
choose word first second = if nat_eq word 0 then second else first

-- the text is printed, where the rank may print so many bytes
abbrev pub printing : List ℕ → Here → Rest → Rest
printing text here next left answers done =
    if fits_text done text then next left answers (printed done text) else traps TextLimit here left answers done
