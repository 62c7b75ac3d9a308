-- What an answer of this crate's calls tells of what the call gives, and what the call leaves.
use Rattle.std.specs.Prelude.{ℕ, ℤ, pos, ◌≡◌, Option, Some, None, Result, Ok, Err, List}
use Rattle.collectives.specs.declared.sends.SweepOut.{SweepOut}
use Rattle.collectives.specs.Sweeps.{Goes, begun}
use Rattle.rank_range.specs.declared.run.CallOut.{CallOut}
use Rattle.rank_range.specs.Areas.{Areas}
use Rattle.mpi_types.specs.declared.argument.Sweep.{Sweep}
use Rattle.mpi_types.specs.declared.call.Call.{Call}
use Rattle.mpi_types.specs.declared.call.Write.{Write}
use Rattle.mpi_types.specs.declared.lists.BookLists.{BookLists}
use Rattle.mpi_types.specs.declared.message.Hit.{Hit}
use Rattle.mpi_types.specs.declared.message.Posted.{Posted}
use Rattle.mpi_types.specs.declared.state.OwnData.{OwnData}
use Rattle.mpi_types.specs.Post.{Posts}
use Rattle.mpi_rules.specs.declared.given.Joining.{Joining}
use Rattle.mpi_rules.specs.Data.{MpiData, data_of}
use Rattle.mpi_rules.specs.Requests.{Came}
use Rattle.mpi_rules.specs.Places.{written}
use Rattle.mpi_rules.specs.Reply.{Given, Reply, Gives, Traps, Ends, NotYet}
use Rattle.mpi_call.specs.declared.done.Began.{Began}
use Rattle.mpi_call.specs.declared.done.CallStop.{CallStop}
use Rattle.mpi_call.specs.declared.done.CallStop.TheVariants.{Trap, End, Memory}
use Rattle.mpi_call.specs.declared.done.Done.{Done}
use Rattle.mpi_call.specs.declared.done.Finished.{Finished}
use Rattle.mpi_call.specs.declared.done.Finished.TheVariants.{Answered, NotYet as Waiting}

-- What a rank keeps of MPI: its own data, its collectives, and the lists that its book stands for.
pub record Kept : Type 0 where
  pub own : OwnData
  pub sweep : Sweep
  pub lists : BookLists

abbrev pub kept : OwnData → Sweep → BookLists → Kept
kept own sweep lists = record { own = own; sweep = sweep; lists = lists }

-- the data by which calls are answered
abbrev pub data_in : Kept → MpiData
data_in k = data_of k.own k.sweep k.lists

-- The book posts the receive; where none is posted, its receives are those of the data then. What arrived stays.
abbrev pub BookGoes : Option Posted → MpiData → BookLists → Option Hit → BookLists → Type 0
BookGoes None after old hit new =
    (hit ≡ None) × (new ≡ record { posted = after.posted; matched = after.matched; arrived = old.arrived })
BookGoes (Some receive) after old hit new = Posts old receive hit new

-- The rank joins the collective; where it joins none, what it has joined is that of the data then. The messages of the tree
-- stay.
abbrev pub Joins : Joining → Sweep → Option SweepOut → Sweep → Type 0
Joins j old None new = ⊥
Joins j old (Some out) new = Goes (begun j.group j.position j.arg old) new out

abbrev pub SweepGoes : Option Joining → MpiData → Sweep → Option SweepOut → Sweep → Type 0
SweepGoes None after old out new = (out ≡ None) × (new ≡ record { joined = after.joined; tree = old.tree })
SweepGoes (Some j) after old out new = Joins j old out new

-- what is done is what the call gives
pub record IsGiven (given : Given) (done : Done) (old new : Kept) : Type 0 where
  pub answer : done.answer ≡ given.answer
  pub writes : done.writes ≡ given.writes
  pub send : done.send ≡ given.send
  pub own_is : new.own ≡ given.after.own
  pub book : BookGoes given.post given.after old.lists done.hit new.lists
  pub sweep : SweepGoes given.join given.after old.sweep done.sweep new.sweep

abbrev pub DoesGive : Reply → Done → Kept → Kept → Type 0
DoesGive (Gives given) done old new = IsGiven given done old new
DoesGive (Traps why) done old new = ⊥
DoesGive (Ends status) done old new = ⊥
DoesGive NotYet done old new = ⊥

-- A call that stops leaves everything as it was. Want of memory tells nothing.
abbrev pub Stops : Reply → CallStop → Kept → Kept → Type 0
Stops reply (Trap why) old new = (reply ≡ Traps why) × (new ≡ old)
Stops reply (End status) old new = (reply ≡ Ends status) × (new ≡ old)
Stops reply Memory old new = Unit {0}

-- what a call does is what is said of it
abbrev pub Does : Reply → Kept → Result Done CallStop → Kept → Type 0
Does reply old (Ok done) new = DoesGive reply done old new
Does reply old (Err stop) new = Stops reply stop old new

-- the same of a call that may have to wait
abbrev pub MayGive : Reply → Option Done → Kept → Kept → Type 0
MayGive reply None old new = (reply ≡ NotYet) × (new ≡ old)
MayGive reply (Some done) old new = DoesGive reply done old new

abbrev pub MayDo : Reply → Kept → Result (Option Done) CallStop → Kept → Type 0
MayDo reply old (Ok done) new = MayGive reply done old new
MayDo reply old (Err stop) new = Stops reply stop old new

-- A receive takes a request: what it leads to, whatever its call answers and writes.
pub record Received (given : Given) (old : Kept) (hit : Option Hit) (new : Kept) : Type 0 where
  pub own_is : new.own ≡ given.after.own
  pub book : BookGoes given.post given.after old.lists hit new.lists
  pub sweep : new.sweep ≡ old.sweep

-- A request ends: these are the bytes that came, and the data then.
pub record Took (came : Came) (after : MpiData) (old : Kept) (body : List ℕ) (new : Kept) : Type 0 where
  pub body_is : body ≡ came.body
  pub own_is : new.own ≡ after.own
  pub lists_are : new.lists ≡ record { posted = after.posted; matched = after.matched; arrived = old.lists.arrived }
  pub sweep_is : new.sweep ≡ old.sweep

-- ---- the calls of this crate

abbrev pub call_of : CallOut → Call
call_of c = record { name = c.call; args = c.arguments; second = c.second }

-- what began, with what was written
abbrev pub done_of : Began → List Write → Done
done_of began writes = record { answer = began.answer; writes = writes; send = began.send; hit = began.hit; sweep = began.sweep }

-- What began is what the call gives, and its bytes are written.
pub record IsBegun (given : Given) (began : Began) (old new : Kept) (before after : Areas) : Type 0 where
  pub given_is : IsGiven given (done_of began given.writes) old new
  pub memory : after ≡ written before given.writes

abbrev pub BeginsBy : Reply → Began → Kept → Kept → Areas → Areas → Type 0
BeginsBy (Gives given) began old new before after = IsBegun given began old new before after
BeginsBy (Traps why) began old new before after = ⊥
BeginsBy (Ends status) began old new before after = ⊥
BeginsBy NotYet began old new before after = ⊥

abbrev pub Begins : Reply → Result Began CallStop → Kept → Kept → Areas → Areas → Type 0
Begins reply (Ok began) old new before after = BeginsBy reply began old new before after
Begins reply (Err stop) old new before after = Stops reply stop old new

-- What ended is what the call gives, and its bytes are written: it sends, posts and joins nothing. A call that can't be answered
-- yet changes nothing.
abbrev pub ended_done : ℤ → List Write → Done
ended_done answer writes = record { answer = Some answer; writes = writes; send = None; hit = None; sweep = None }

-- the call answers 0, and does nothing but write
abbrev pub IsQuiet : Done → Type 0
IsQuiet done = done ≡ ended_done (pos 0) done.writes

pub record IsEnded (given : Given) (answer : ℤ) (old new : Kept) (before after : Areas) : Type 0 where
  pub given_is : IsGiven given (ended_done answer given.writes) old new
  pub memory : after ≡ written before given.writes

abbrev pub EndsBy : Reply → ℤ → Kept → Kept → Areas → Areas → Type 0
EndsBy (Gives given) answer old new before after = IsEnded given answer old new before after
EndsBy (Traps why) answer old new before after = ⊥
EndsBy (Ends status) answer old new before after = ⊥
EndsBy NotYet answer old new before after = ⊥

abbrev pub FinishesBy : Reply → Finished → Kept → Kept → Areas → Areas → Type 0
FinishesBy reply (Answered answer) old new before after = EndsBy reply answer old new before after
FinishesBy reply Waiting old new before after = (reply ≡ NotYet) × (new ≡ old) × (after ≡ before)

abbrev pub Finishes : Reply → Result Finished CallStop → Kept → Kept → Areas → Areas → Type 0
Finishes reply (Ok finished) old new before after = FinishesBy reply finished old new before after
Finishes reply (Err stop) old new before after = Stops reply stop old new
