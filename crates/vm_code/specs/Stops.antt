-- How a run on one rank stands, and what it has done so far.
use Rattle.std.specs.Prelude.{ℕ, ◌+◌, ℤ, nat_le, Bool, List, [], ◌∷◌, ◌++◌, length}
use Rattle.am_base.specs.declared.traps.TrapCause.{TrapCause}
use Rattle.rank_range.specs.Output.{text_limit}
use Rattle.mpi_types.specs.declared.call.Call.{Call}
use Rattle.rank_range.specs.Areas.{Memory}

-- How a run stands: no tick was left at a tick point, or no answer at a tick of this call of MPI; or the rank is ended with a
-- status, or trapped by a cause at a unit's line.
pub data Stop : Type 0 where
  Paused : Stop
  Waits : Call → Stop
  Ended : ℤ → Stop
  Trapped : TrapCause → ℕ → ℕ → Stop

-- What a rank has done so far: its memory, the text that it printed, the calls of MPI that took a tick, the last one first,
-- and its ticks.
pub record Done : Type 0 where
  pub memory : Memory
  pub text : List ℕ
  pub made : List Call
  pub ticks : ℕ

abbrev pub with_ticks : Done → Done
with_ticks done = record done { ticks = done.ticks + 1 }

-- a call of MPI took a tick
abbrev pub asked : Done → Call → Done
asked done call = record done { ticks = done.ticks + 1; made = call ∷ done.made }

-- whether the rank may print the text
abbrev pub fits_text : Done → List ℕ → Bool
fits_text done text = nat_le (length done.text + length text) text_limit

abbrev pub printed : Done → List ℕ → Done
printed done text = record done { text = done.text ++ text }

-- before anything happened
abbrev pub nothing_done : Memory → Done
nothing_done m = record { memory = m; text = []; made = []; ticks = 0 }
