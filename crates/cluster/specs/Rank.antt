-- A rank stands for a run so far.
use Rattle.std.specs.Prelude.{ℕ, ◌≡◌, ◌+◌, ◌<◌, ◌≤◌, List, [], length}
use Rattle.rank_range.specs.Areas.{memory_of}
use Rattle.rank_range.specs.Nodes.{HasHeap}
use Rattle.rank_range.specs.Output.{text_limit, with_text, with_last_line}
use Rattle.rank_range.specs.declared.run.Output.{Output}
use Rattle.std.specs.Prelude.{Option, Some, None}
use Rattle.rank_range.specs.declared.run.Ending.{Ending}
use Rattle.rank_range.specs.declared.run.Ending.TheVariants.{Running}
use Rattle.rank_range.specs.declared.run.Ending.TheVariants as ending
use Rattle.rank_machine.specs.declared.stop.Stop.{Stop as MachineStop}
use Rattle.rank_machine.specs.declared.stop.Stop.TheVariants as stop
use Rattle.vm_code.specs.declared.code.Code.{Code}
use Rattle.vm_code.specs.Stops.{Stop, Paused, Waits, Ended, Trapped}
use Rattle.vm_code.specs.Machine.{Stops}
use Rattle.c_model.specs.Outcome.{Outcome}
use Rattle.c_model.specs.Statements.{run_of}
use Rattle.rank_machine.specs.View as machine
use Rattle.rank_machine.specs.View.{Tally, config_at}
use Rattle.rank_machine.specs.Ran.{Stands, GoesOn}
use Rattle.w_model.specs.World.{Setting}
use Rattle.w_model.specs.Texts.{ending_of}
use Rattle.cluster.specs.declared.rank.Rank.{Rank}

-- its registers and its bytes
abbrev pub seen : Rank → machine.Rank
seen rank = record {
  place = rank.regs.position;
  depth = rank.regs.depth;
  ticks = rank.regs.ticks;
  number = rank.memory.0;
  top = rank.memory.1;
  bytes = rank.memory.2;
}

-- before anything is printed
abbrev pub nothing_printed : Output
nothing_printed = record { printed = 0; unfinished = []; next = 0; held = [] }

-- What is printed with this text by a rank that stands so: what is left of it is a line when the rank ends or is trapped.
abbrev pub output_of : Stop → List ℕ → Output
output_of (Ended status) text = with_last_line (with_text nothing_printed text)
output_of (Trapped cause unit line) text = with_last_line (with_text nothing_printed text)
output_of Paused text = with_text nothing_printed text
output_of (Waits call) text = with_text nothing_printed text

-- the program's run on a rank of this number, with no answer to a call of MPI
abbrev pub run_at : Setting → ℕ → ℕ → Outcome
run_at s number ticks = run_of s.program s.segment number [] ticks

-- what a rank printed and called so far, with so many ticks left
abbrev pub tally_of : Outcome → ℕ → Tally
tally_of o left = record { text = o.done.text; made = o.done.made; ticks = 0; left = left; answers = [] }

-- A rank that neither ended nor was trapped is paused, and its machine goes on to where the run is with any number of ticks more.
pub record GoesFrom (code : Code) (s : Setting) (number : ℕ) (rank : Rank) : Type 0 where
  pub paused : (run_at s number rank.regs.ticks).stop ≡ Paused
  pub stands : Stands code (seen rank)
  pub heap : HasHeap rank.memory.0 rank.memory.2
  pub goes : GoesOn code (seen rank) rank.regs.output.printed
  pub numbers : rank.regs.output.next + length rank.regs.output.unfinished ≤ rank.regs.output.printed
  pub limit : rank.regs.output.printed ≤ text_limit
  pub on : (n : ℕ)
      → Stops code (config_at code (seen rank) (tally_of (run_at s number rank.regs.ticks) n))
      (run_at s number (rank.regs.ticks + n)).stop (run_at s number (rank.regs.ticks + n)).done

-- The rank is where the program's run is after as many ticks as the rank took: so ended or not, with this printed, with this
-- memory.
pub record StandsFor (code : Code) (s : Setting) (number : ℕ) (rank : Rank) : Type 0 where
  pub owner : rank.memory.0 ≡ number
  pub ending : rank.ending ≡ ending_of (run_at s number rank.regs.ticks).stop
  pub output : rank.regs.output ≡ output_of (run_at s number rank.regs.ticks).stop (run_at s number rank.regs.ticks).done.text
  pub memory : (run_at s number rank.regs.ticks).done.memory ≡ memory_of number rank.memory.1 rank.memory.2
  pub ticks : (run_at s number rank.regs.ticks).done.ticks ≡ rank.regs.ticks
  pub goes_on : rank.ending ≡ Running → GoesFrom code s number rank

-- The rank took so many ticks more, and each was allowed: the run was paused before it, below the bound.
pub record Ticked (code : Code) (s : Setting) (number : ℕ) (old new : Rank) (taken : ℕ) : Type 0 where
  pub stands : StandsFor code s number new
  pub ticks : new.regs.ticks ≡ old.regs.ticks + taken
  pub running : (j : ℕ) → j < taken → (run_at s number (old.regs.ticks + j)).stop ≡ Paused
  pub below_bound : (j : ℕ) → j < taken → old.regs.ticks + j < s.bound

-- The rank took ticks of a budget, and where some of it is left it could take no more.
pub record Ran (code : Code) (s : Setting) (number budget : ℕ) (old new : Rank) (taken : ℕ) : Type 0 where
  pub ticked : Ticked code s number old new taken
  pub within : taken ≤ budget
  pub stopped : taken < budget → new.ending ≡ Running → s.bound ≤ new.regs.ticks

-- how a rank stands whose machine stopped so, unless memory ran out
abbrev pub stopped_as : MachineStop → Option Ending
stopped_as (stop.Ended status) = Some (ending.Ended status)
stopped_as (stop.Trap cause unit line) = Some (ending.Trapped (record { cause = cause; unit = unit; line = line }))
stopped_as stop.Paused = Some Running
stopped_as (stop.Call call) = Some Running
stopped_as stop.Memory = None
