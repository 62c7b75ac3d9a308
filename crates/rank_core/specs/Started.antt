-- A rank before its first tick.
use Rattle.std.specs.Prelude.{ℕ, ◌≡◌, ◌<◌, ◌≤◌, List, [], replicate, slice_get}
use Rattle.rank_range.specs.Nodes.{HasHeap}
use Rattle.rank_range.specs.declared.run.Ending.{Ending}
use Rattle.rank_range.specs.declared.run.Ending.TheVariants.{Running}
use Rattle.rank_range.specs.declared.run.Output.{Output}
use Rattle.rank_range.specs.declared.run.Regs.{Regs}
use Rattle.rank_range.specs.declared.run.Segment.{Segment}
use Rattle.mpi_types.specs.declared.argument.Sweep.{Sweep}
use Rattle.mpi_types.specs.declared.lists.BookLists.{BookLists}
use Rattle.mpi_types.specs.declared.state.OwnData.{OwnData}
use Rattle.mpi_types.specs.declared.state.Reorder.{Reorder}
use Rattle.mpi_call.specs.Answers.{kept}
use Rattle.mpi_call.specs.Steady.{IsSteady, no_lists, no_sweep, own_at_start}
use Rattle.rank_image.specs.declared.load.Load.{Load}
use Rattle.rank_machine.specs.Onward.{IsFresh}
use Rattle.rank_machine.specs.Ran.{CallsMain, GoesOn, Stands}
use Rattle.rank_machine.specs.View.{Rank, words_for}
use Rattle.vm_code.specs.declared.code.Code.{Code}
use Rattle.vm_code.specs.Machine.{Goes, start}
use Rattle.vm_code.specs.Memory.{opened}

-- a state's registers and memory as its machine
abbrev pub rank_at : Regs → ℕ → ℕ → List ℕ → Rank
rank_at regs number top bytes =
    record { place = regs.position; depth = regs.depth; ticks = regs.ticks; number = number; top = top; bytes = bytes }

abbrev pub no_output : Output
no_output = record { printed = 0; unfinished = []; next = 0; held = [] }

-- The rank of this number stands before its first tick, in a world of so many ranks: its memory and its machine are those of the program's
-- segment; it has printed nothing, and has nothing of MPI but the world.
pub record IsStarted (segment : Segment) (number ranks : ℕ) (regs : Regs) (ending : Ending) (load : Load) (own : OwnData) (sweep : Sweep)
    (lists : BookLists) (sent : List ℕ) (reorder : Reorder) (owner top : ℕ) (bytes : List ℕ) : Type 0 where
  pub owner_is : owner ≡ number
  pub fresh : IsFresh segment (rank_at regs owner top bytes)
  pub heap : HasHeap owner bytes
  pub output : regs.output ≡ no_output
  pub running : ending ≡ Running
  pub load_is : load ≡ record { current = 0; window = [] }
  pub own_is : own ≡ own_at_start ranks
  pub sweep_is : sweep ≡ no_sweep
  pub lists_are : lists ≡ no_lists
  pub sent_is : sent ≡ replicate ranks 0
  pub reorder_is : reorder ≡ record { expected = replicate ranks 0; held = [] }

-- Such a rank may run, where the code calls `main` first and goes on from its start; and what holds of its data of MPI from call to call holds.
abbrev pub StartedRun : Type 0
StartedRun =
    (code : Code) (segment : Segment) (number ranks : ℕ) (regs : Regs) (ending : Ending) (load : Load) (own : OwnData) (sweep : Sweep)
    (lists : BookLists) (sent : List ℕ) (reorder : Reorder) (owner top : ℕ) (bytes : List ℕ) → number < ranks → ranks ≤ 256
    → CallsMain code → Goes code (start (opened segment owner) (words_for owner (slice_get code.instrs 0)) 0 [])
    → IsStarted segment number ranks regs ending load own sweep lists sent reorder owner top bytes
    → Stands code (rank_at regs owner top bytes) × GoesOn code (rank_at regs owner top bytes) 0
    × IsSteady owner 0 (kept own sweep lists)
