-- What ranks, and the messages that are under way between them, stand for at a world.
use Rattle.std.specs.Prelude.{ℕ, ◌≡◌, ◌≢◌, ◌+◌, ◌==◌, Option, Some, List, [], ◌++◌, filter}
use Rattle.rank_range.specs.declared.run.Ending.TheVariants.{Running}
use Rattle.vm_code.specs.declared.code.Code.{Code}
use Rattle.vm_code.specs.Stops.{Stop, Paused}
use Rattle.vm_code.specs.Machine.{Config, Stops, given}
use Rattle.c_model.specs.Outcome.{Outcome}
use Rattle.c_model.specs.Statements.{run_of}
use Rattle.mpi_types.specs.declared.call.Answer.{Answer}
use Rattle.mpi_types.specs.declared.entries.Entry.{Entry}
use Rattle.mpi_types.specs.declared.message.Message.{Message}
use Rattle.mpi_types.specs.Book.{IsOrderly, IsSettled}
use Rattle.mpi_rules.specs.declared.given.SendOut.{SendOut}
use Rattle.rank_steps.specs.Steps.{Standing, data_at, stop_of}
use Rattle.standing.specs.World.{Setting, World, RankPart, outcome_of, sent_between, after_all}
use Rattle.standing.specs.Steps.{IsLegalFrom}

-- ---- a rank's machine

-- what the program does on the rank with so many ticks and with these answers more
abbrev pub later_of : Setting → ℕ → RankPart → ℕ → List Answer → Outcome
later_of s r part left answers = run_of s.program s.segment r (part.answers ++ answers) (part.ticks + left)

-- The run of a rank that stopped for good.
pub record HasStopped (s : Setting) (r : ℕ) (part : RankPart) (rank : Standing) (stop : Stop) : Type 0 where
  pub stop_is : (outcome_of s r part).stop ≡ stop
  pub done_is : (outcome_of s r part).done ≡ rank.machine.done

-- The rank is where its run is. While it is running, its machine goes on to where the run is with any ticks and answers more; once it is
-- ended or trapped, so is the run, and what the machine has done is what the run has done.
pub record FollowsRun (code : Code) (s : Setting) (r : ℕ) (part : RankPart) (rank : Standing) : Type 0 where
  pub ticks : rank.machine.done.ticks ≡ part.ticks
  pub goes : rank.ending ≡ Running → (left : ℕ) (answers : List Answer)
      → Stops code (given left answers rank.machine) (later_of s r part left answers).stop (later_of s r part left answers).done
  pub over : (stop : Stop) → stop_of rank.ending ≡ Some stop → HasStopped s r part rank stop

-- The machine is at a tick point: with no tick left it stops where it is.
abbrev pub IsAtTick : Code → Config → Type 0
IsAtTick code machine = Stops code (given 0 [] machine) Paused machine.done

-- ---- a rank

-- the messages of a list that this rank sent
abbrev pub from : ℕ → List Message → List Message
from sender messages = filter (λ m. sender == m.sender.0) messages

-- What a rank stands for at a world, where `coming` is what is under way between ranks, from one to another, in order of sending: it is where its run is;
-- its data of MPI are those of the world; the messages to it that met no receive are those that have arrived, and behind these the ones that
-- are under way; and no receive waits for a message that has arrived.
pub record RankStands (code : Code) (s : Setting) (w : World) (coming : ℕ → ℕ → List Message) (r : ℕ) (rank : Standing) : Type 0 where
  pub follows : FollowsRun code s r (w.rank r) rank
  pub data_is : (w.rank r).mpi ≡ data_at rank
  pub queues : (sender : ℕ) → w.queue sender r ≡ from sender rank.lists.arrived ++ coming sender r
  pub settled : IsSettled rank.lists
  pub orderly : IsOrderly rank.lists

-- All ranks, by their numbers, stand for the world.
abbrev pub RanksStand : Code → Setting → World → (ℕ → ℕ → List Message) → (ℕ → Option Standing) → Type 0
RanksStand code s w coming held = (r : ℕ) (rank : Standing) → held r ≡ Some rank → RankStands code s w coming r rank

-- ---- what changes

-- One rank stands otherwise than before.
pub record IsSetAt (held : ℕ → Option Standing) (r : ℕ) (new : Standing) (held' : ℕ → Option Standing) : Type 0 where
  pub here : held' r ≡ Some new
  pub others : (q : ℕ) → q ≢ r → held' q ≡ held q

-- A message that is sent is under way, behind those before it.
abbrev pub IsSentTo : (ℕ → ℕ → List Message) → Option SendOut → (ℕ → ℕ → List Message) → Type 0
IsSentTo coming send coming' = (sender to : ℕ) → coming' sender to ≡ coming sender to ++ sent_between send sender to

-- A message that arrives at this rank was the first one that was under way from its sender.
abbrev pub IsTakenFrom : (ℕ → ℕ → List Message) → Message → ℕ → (ℕ → ℕ → List Message) → Type 0
IsTakenFrom coming message r coming' =
    (sender to : ℕ) → coming sender to ≡ sent_between (Some (record { to = record { 0 = r }; message = message })) sender to ++ coming' sender to

-- These entries are allowed one after another, and the ranks stand for the world behind them.
pub record Goes (code : Code) (s : Setting) (w : World) (added : List Entry) (coming : ℕ → ℕ → List Message) (held : ℕ → Option Standing) : Type 0 where
  pub legal : IsLegalFrom s w added
  pub stands : RanksStand code s (after_all s w added) coming held
