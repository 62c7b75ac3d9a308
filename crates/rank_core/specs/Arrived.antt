-- What the arrival of a message tells.
use Rattle.std.specs.Prelude.{ℕ, ◌≡◌, List, [], ◌∷◌, Option, None}
use Rattle.am_base.specs.declared.numbers.RankId.{RankId}
use Rattle.rank_range.specs.declared.run.Ending.{Ending}
use Rattle.rank_range.specs.declared.run.Regs.{Regs}
use Rattle.mpi_types.specs.declared.argument.Sweep.{Sweep}
use Rattle.mpi_types.specs.declared.entries.EntryRun.{EntryRun}
use Rattle.mpi_types.specs.declared.lists.BookLists.{BookLists}
use Rattle.mpi_types.specs.declared.message.Hit.{Hit}
use Rattle.mpi_types.specs.declared.message.Message.{Message}
use Rattle.mpi_types.specs.declared.state.OwnData.{OwnData}
use Rattle.mpi_types.specs.Runs.{entries_of}
use Rattle.vm_code.specs.declared.code.Code.{Code}
use Rattle.rank_machine.specs.View.{Tally, config_at}
use Rattle.rank_steps.specs.Steps.{HasArrived, Standing, match_of}
use Rattle.rank_core.specs.Started.{rank_at}

-- What a state stands for, with the text that it printed and the calls that it made so far.
abbrev pub standing : Code → Regs → Ending → OwnData → Sweep → BookLists → ℕ → ℕ → List ℕ → Tally → Standing
standing code regs ending own sweep lists number top bytes tally =
    record {
      machine = config_at code (rank_at regs number top bytes) (record tally { left = 0; answers = [] });
      ending = ending;
      own = own;
      sweep = sweep;
      lists = lists;
    }

-- The message arrived: so the rank then stands, and these are the entries of it.
pub record ArrivesBy (rank : RankId) (message : Message) (entries : List EntryRun) (old new : Code → Tally → Standing) : Type 0 where
  pub hit : Option Hit
  pub arrived : (code : Code) (tally : Tally) → HasArrived message hit (old code tally) (new code tally)
  pub entries_are : entries_of entries ≡ match_of rank hit
