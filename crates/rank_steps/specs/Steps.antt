-- What one rank does: ticks of its machine, and ticks at calls of MPI with their answers by the table of calls. Nothing is said of
-- other ranks.
use Rattle.std.specs.Prelude.{ℕ, suc, ◌≡◌, ◌+◌, ◌++◌, Bool, true, false, List, [], ◌∷◌, replicate, Option, Some, None}
use Rattle.am_base.specs.declared.numbers.RankId.{RankId}
use Rattle.rank_range.specs.declared.run.Ending.{Ending}
use Rattle.rank_range.specs.declared.run.Ending.TheVariants.{Running, Ended, Trapped}
use Rattle.collectives.specs.declared.sends.SweepOut.{SweepOut}
use Rattle.collectives.specs.Sweeps.{Goes, begun}
use Rattle.mpi_types.specs.declared.argument.Sweep.{Sweep}
use Rattle.mpi_types.specs.declared.call.Answer.{Answer}
use Rattle.mpi_types.specs.declared.call.Answer.TheVariants as answer
use Rattle.mpi_types.specs.declared.call.Call.{Call}
use Rattle.mpi_types.specs.declared.entries.Entry.{Entry}
use Rattle.mpi_types.specs.declared.entries.Entry.TheVariants.{Tick, Match, Gather}
use Rattle.mpi_types.specs.declared.lists.BookLists.{BookLists}
use Rattle.mpi_types.specs.declared.message.Hit.{Hit}
use Rattle.mpi_types.specs.declared.message.Message.{Message}
use Rattle.mpi_types.specs.declared.message.Posted.{Posted}
use Rattle.mpi_types.specs.declared.state.OwnData.{OwnData}
use Rattle.mpi_types.specs.Post.{Arrives, Posts}
use Rattle.mpi_rules.specs.declared.given.Joining.{Joining}
use Rattle.mpi_rules.specs.declared.given.SendOut.{SendOut}
use Rattle.mpi_rules.specs.Answers.{value_or_half}
use Rattle.mpi_rules.specs.Calls.{reply}
use Rattle.mpi_rules.specs.Data.{MpiData, data_of}
use Rattle.mpi_rules.specs.Reply.{Given, Reply, Gives, Traps, Ends, NotYet}
use Rattle.vm_code.specs.declared.code.Code.{Code}
use Rattle.vm_code.specs.Stops as stops
use Rattle.vm_code.specs.Machine.{Config, Went, Stopped, Stops, exec, given, one_step}

-- How a rank stands: its machine, whatever ticks and answers are left there; whether it runs, is ended or trapped; and its data of MPI.
pub record Standing : Type 0 where
  pub machine : Config
  pub ending : Ending
  pub own : OwnData
  pub sweep : Sweep
  pub lists : BookLists

-- the data by which its calls are answered
abbrev pub data_at : Standing → MpiData
data_at s = data_of s.own s.sweep s.lists

-- ---- what happens to a rank

-- A rank takes so many ticks none of which is at a call of MPI; or one at this call. What comes of that at once: the receive that is posted
-- meets a message that has arrived, and the collective that is joined goes on.
pub data RankStep : Type 0 where
  Runs : ℕ → RankStep
  Asks : Call → Option SendOut → Option Hit → Option SweepOut → RankStep

-- ---- the machine

-- With this number of ticks one machine comes to where the other one is, whatever ticks and answers are left.
pub record LeadsOn (code : Code) (old : Config) (ticks : ℕ) (new : Config) : Type 0 where
  pub instructions : ℕ
  pub leads : (left more : ℕ) (answers : List Answer)
      → exec code (instructions + more) (given (ticks + left) answers old) ≡ exec code more (given left answers new)

-- With this number of ticks, and with more, the machine stops so.
pub record StopsSo (code : Code) (old : Config) (ticks : ℕ) (stop : stops.Stop) (new : Config) : Type 0 where
  pub stops : (left : ℕ) (answers : List Answer) → Stops code (given (ticks + left) answers old) stop new.done

-- The machine waits at this call of MPI.
abbrev pub WaitsAt : Code → Config → Call → Type 0
WaitsAt code machine call =
    (left : ℕ) → one_step code (given (suc left) [] machine) ≡ Stopped (stops.Waits call) (given (suc left) [] machine)

-- One tick, with this answer, leads it on.
abbrev pub GoesBy : Code → Config → Answer → Config → Type 0
GoesBy code old a new =
    (left : ℕ) (answers : List Answer) → one_step code (given (suc left) (a ∷ answers) old) ≡ Went (given left answers new)

-- One tick, with this answer, stops it.
abbrev pub StopsBy : Code → Config → Answer → stops.Stop → Config → Type 0
StopsBy code old a stop new =
    (left : ℕ) (answers : List Answer) → one_step code (given (suc left) (a ∷ answers) old) ≡ Stopped stop (given left answers new)

-- ---- a run of ticks

-- how a rank that ran is told to stand
abbrev pub stop_of : Ending → Option stops.Stop
stop_of Running = None
stop_of (Ended status) = Some (stops.Ended status)
stop_of (Trapped t) = Some (stops.Trapped t.cause t.unit t.line)

abbrev pub RunsTo : Code → Config → ℕ → Option stops.Stop → Config → Type 0
RunsTo code old ticks None new = LeadsOn code old ticks new
RunsTo code old ticks (Some stop) new = StopsSo code old ticks stop new

-- The data of MPI stay.
pub record KeepsData (old new : Standing) : Type 0 where
  pub own : new.own ≡ old.own
  pub sweep : new.sweep ≡ old.sweep
  pub lists : new.lists ≡ old.lists

pub record HasRun (code : Code) (ticks : ℕ) (old new : Standing) : Type 0 where
  pub running : old.ending ≡ Running
  pub machine : RunsTo code old.machine ticks (stop_of new.ending) new.machine
  pub data_is : KeepsData old new

-- ---- a tick at a call of MPI

-- The book posts the receive, which meets the first message that has arrived and that it accepts.
abbrev pub BookMoves : Option Posted → MpiData → BookLists → Option Hit → BookLists → Type 0
BookMoves None after old hit new =
    (hit ≡ None) × (new ≡ record { posted = after.posted; matched = after.matched; arrived = old.arrived })
BookMoves (Some receive) after old hit new = Posts old receive hit new

-- The rank joins the collective.
abbrev pub HasJoined : Joining → Sweep → Option SweepOut → Sweep → Type 0
HasJoined j old None new = ⊥
HasJoined j old (Some out) new = Goes (begun j.group j.position j.arg old) new out

abbrev pub SweepMoves : Option Joining → MpiData → Sweep → Option SweepOut → Sweep → Type 0
SweepMoves None after old out new = (out ≡ None) × (new ≡ record { joined = after.joined; tree = old.tree })
SweepMoves (Some j) after old out new = HasJoined j old out new

-- what the call gives
pub record IsAnswered (code : Code) (g : Given) (send : Option SendOut) (hit : Option Hit) (out : Option SweepOut) (old new : Standing) : Type 0 where
  pub ending : new.ending ≡ Running
  pub machine : GoesBy code old.machine (value_or_half g.answer g.writes) new.machine
  pub send_is : send ≡ g.send
  pub own : new.own ≡ g.after.own
  pub book : BookMoves g.post g.after old.lists hit new.lists
  pub sweep : SweepMoves g.join g.after old.sweep out new.sweep

-- nothing else comes of it
abbrev pub IsAlone : Option SendOut → Option Hit → Option SweepOut → Type 0
IsAlone send hit out = (send ≡ None) × (hit ≡ None) × (out ≡ None)

-- The call traps, or ends the rank.
pub record IsStopped (code : Code) (a : Answer) (stop : stops.Stop) (send : Option SendOut) (hit : Option Hit) (out : Option SweepOut)
    (old new : Standing) : Type 0 where
  pub ending : stop_of new.ending ≡ Some stop
  pub machine : StopsBy code old.machine a stop new.machine
  pub alone : IsAlone send hit out
  pub data_is : KeepsData old new

abbrev pub DoesAnswer : Code → Reply → Option SendOut → Option Hit → Option SweepOut → Standing → Standing → Type 0
DoesAnswer code (Gives g) send hit out old new = IsAnswered code g send hit out old new
DoesAnswer code (Traps why) send hit out old new =
    (unit : ℕ) × (line : ℕ) × IsStopped code (answer.Trap why) (stops.Trapped why unit line) send hit out old new
DoesAnswer code (Ends status) send hit out old new = IsStopped code (answer.End status) (stops.Ended status) send hit out old new
DoesAnswer code NotYet send hit out old new = ⊥

-- It stood at the call, and this came of it.
pub record HasAsked (code : Code) (call : Call) (send : Option SendOut) (hit : Option Hit) (out : Option SweepOut) (old new : Standing) : Type 0 where
  pub running : old.ending ≡ Running
  pub waits : WaitsAt code old.machine call
  pub does : DoesAnswer code (reply old.machine.done.memory.areas (data_at old) call) send hit out old new

abbrev pub IsStep : Code → RankStep → Standing → Standing → Type 0
IsStep code (Runs ticks) old new = HasRun code ticks old new
IsStep code (Asks call send hit out) old new = HasAsked code call send hit out old new

-- The rank did these steps, one after another.
abbrev pub Did : Code → List RankStep → Standing → Standing → Type 0
Did code [] old new = new ≡ old
Did code (step ∷ steps) old new = (mid : Standing) × IsStep code step old mid × Did code steps mid new

-- Steps behind steps are steps.
abbrev pub StepsJoin : Type 0
StepsJoin =
    (code : Code) (first second : List RankStep) (old mid new : Standing) → Did code first old mid → Did code second mid new
    → Did code (first ++ second) old new

-- ---- an arrival

-- A message reaches the rank, however it stands: the first receive that accepts it gets it, or it is kept behind the others. Nothing else
-- changes.
pub record HasArrived (message : Message) (hit : Option Hit) (old new : Standing) : Type 0 where
  pub machine : new.machine ≡ old.machine
  pub ending : new.ending ≡ old.ending
  pub own : new.own ≡ old.own
  pub sweep : new.sweep ≡ old.sweep
  pub book : Arrives old.lists message hit new.lists

-- ---- the entries of a history

abbrev pub match_of : RankId → Option Hit → List Entry
match_of rank None = []
match_of rank (Some hit) = Match rank hit.request hit.sender ∷ []

-- the rank has gathered
abbrev pub gather_by : RankId → Bool → List Entry
gather_by rank false = []
gather_by rank true = Gather rank ∷ []

abbrev pub gather_of : RankId → Option SweepOut → List Entry
gather_of rank None = []
gather_of rank (Some out) = gather_by rank out.gathered

abbrev pub entries_of_step : RankId → RankStep → List Entry
entries_of_step rank (Runs ticks) = replicate ticks (Tick rank)
entries_of_step rank (Asks call send hit out) = Tick rank ∷ (match_of rank hit ++ gather_of rank out)

abbrev pub entries_of_steps : RankId → List RankStep → List Entry
entries_of_steps rank [] = []
entries_of_steps rank (step ∷ steps) = entries_of_step rank step ++ entries_of_steps rank steps

-- the messages that were sent
abbrev pub sent_by : RankStep → List SendOut
sent_by (Runs ticks) = []
sent_by (Asks call None hit out) = []
sent_by (Asks call (Some send) hit out) = send ∷ []

abbrev pub all_sent_by : List RankStep → List SendOut
all_sent_by [] = []
all_sent_by (step ∷ steps) = sent_by step ++ all_sent_by steps
