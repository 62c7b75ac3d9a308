-- A history of a run and the world after it (MPI 3.1, sections 3.5, 3.7 and 6.4, chapter 5). It speaks of ranks that never move, each with
-- a private memory, and of messages that are in order and never lost; of no processors, no packets and no copies.
use Rattle.std.specs.Prelude.{ℕ, ◌+◌, ◌==◌, ◌&&◌, if◌then◌else◌, Bool, Option, Some, None, List, [], ◌∷◌, ◌++◌, length, map, find}
use Rattle.std.specs.List.{range_with_len}
use Rattle.am_base.specs.declared.numbers.RankId.{RankId}
use Rattle.rank_range.specs.declared.run.Segment.{Segment}
use Rattle.rank_range.specs.Areas.{Areas}
use Rattle.c_types.specs.declared.program.Program.{Program}
use Rattle.vm_code.specs.Stops.{Stop, Paused, Waits, Ended, Trapped}
use Rattle.c_model.specs.Outcome.{Outcome}
use Rattle.c_model.specs.Statements.{run_of}
use Rattle.mpi_types.specs.declared.argument.Arg.{Arg}
use Rattle.mpi_types.specs.declared.argument.Joined.{Joined}
use Rattle.mpi_types.specs.declared.call.Answer.{Answer}
use Rattle.mpi_types.specs.declared.call.Answer.TheVariants as answer
use Rattle.mpi_types.specs.declared.context.Level.{Level}
use Rattle.mpi_types.specs.declared.entries.Entry.{Entry}
use Rattle.mpi_types.specs.declared.entries.Entry.TheVariants.{Tick, Match, Gather, Commit}
use Rattle.mpi_types.specs.declared.group.Communicator.{Communicator}
use Rattle.mpi_types.specs.declared.message.Message.{Message}
use Rattle.mpi_types.specs.declared.message.Posted.{Posted}
use Rattle.mpi_types.specs.declared.state.OwnData.{OwnData}
use Rattle.mpi_types.specs.declared.state.Phase.TheVariants.{Before}
use Rattle.mpi_types.specs.Accepts.{accepts, is_same_ctx}
use Rattle.mpi_types.specs.Post.{with_pair}
use Rattle.mpi_rules.specs.declared.given.Joining.{Joining}
use Rattle.mpi_rules.specs.declared.given.SendOut.{SendOut}
use Rattle.mpi_rules.specs.Answers.{value_or_half}
use Rattle.mpi_rules.specs.Calls.{reply}
use Rattle.mpi_rules.specs.Data.{MpiData}
use Rattle.mpi_rules.specs.Reply.{Reply, Gives, Traps, Ends, NotYet, with_post, with_join}

-- What a run is given: its program with its segment, how many ranks run it, and how many ticks each may take.
pub record Setting : Type 0 where
  pub program : Program
  pub segment : Segment
  pub ranks : ℕ
  pub bound : ℕ

-- What the world keeps of a rank: the answers to its calls of MPI so far, the first one first, its ticks, and its data of MPI.
pub record RankPart : Type 0 where
  pub answers : List Answer
  pub ticks : ℕ
  pub mpi : MpiData

pub record World : Type 0 where
  -- of each rank
  pub rank : ℕ → RankPart
  -- the messages from one rank to another that have met no receive, in order of sending
  pub queue : ℕ → ℕ → List Message
  -- what members gave to collectives, by context, position and member
  pub given : List Level → ℕ → ℕ → Option Arg

abbrev pub changed_at : {X : Type 0} → (ℕ → X) → ℕ → X → ℕ → X
changed_at f r x q = if q == r then x else f q

-- ---- before anything happened

-- the ranks of the world, in order
abbrev pub all_ranks : ℕ → List RankId
all_ranks ranks = map (λ r. record { 0 = r }) (range_with_len 0 ranks)

-- before `MPI_Init`, with no request, and with one communicator: `MPI_COMM_WORLD`, of all ranks
abbrev pub own_at_start : ℕ → OwnData
own_at_start ranks =
    record {
      phase = Before;
      next = 1;
      complete = [];
      communicators = record { number = 1; group = record { ctx = []; members = all_ranks ranks }; position = 0 } ∷ [];
    }

abbrev pub mpi_at_start : ℕ → MpiData
mpi_at_start ranks = record { own = own_at_start ranks; posted = []; matched = []; joined = None }

abbrev pub start_world : Setting → World
start_world s = record {
  rank = λ r. record { answers = []; ticks = 0; mpi = mpi_at_start s.ranks };
  queue = λ from to. [];
  given = λ ctx position member. None;
}

-- ---- a rank's run

-- what the program did on a rank so far
abbrev pub outcome_of : Setting → ℕ → RankPart → Outcome
outcome_of s r part = run_of s.program s.segment r part.answers part.ticks

abbrev pub outcome_at : Setting → World → ℕ → Outcome
outcome_at s w r = outcome_of s r (w.rank r)

-- what it does with one more tick: it waits where its next tick is at a call of MPI
abbrev pub next_of : Setting → ℕ → RankPart → Outcome
next_of s r part = run_of s.program s.segment r part.answers (part.ticks + 1)

-- what the call gives at which a run waits, if it waits at one
abbrev pub reply_at : Areas → MpiData → Stop → Option Reply
reply_at areas mpi (Waits call) = Some (reply areas mpi call)
reply_at areas mpi Paused = None
reply_at areas mpi (Ended status) = None
reply_at areas mpi (Trapped cause unit line) = None

-- What the rank's next tick gets: none, where it is at no call of MPI.
abbrev pub reply_for : Setting → ℕ → RankPart → Option Reply
reply_for s r part = reply_at (next_of s r part).done.memory.areas part.mpi (next_of s r part).stop

-- ---- ticks

abbrev pub with_answer : Answer → RankPart → RankPart
with_answer a part = record { answers = part.answers ++ a ∷ []; ticks = part.ticks + 1; mpi = part.mpi }

abbrev pub with_mpi : MpiData → RankPart → RankPart
with_mpi mpi part = record { answers = part.answers; ticks = part.ticks; mpi = mpi }

-- The rank behind its next tick. A receive that is posted has no message yet, and a collective that is joined isn't gathered yet.
abbrev pub part_behind : Option Reply → RankPart → RankPart
part_behind None part = record { answers = part.answers; ticks = part.ticks + 1; mpi = part.mpi }
part_behind (Some (Gives g)) part =
    with_mpi (with_join g.join (with_post g.post g.after)) (with_answer (value_or_half g.answer g.writes) part)
part_behind (Some (Traps why)) part = with_answer (answer.Trap why) part
part_behind (Some (Ends status)) part = with_answer (answer.End status) part
part_behind (Some NotYet) part = part

abbrev pub sent_by : Option Reply → Option SendOut
sent_by None = None
sent_by (Some (Gives g)) = g.send
sent_by (Some (Traps why)) = None
sent_by (Some (Ends status)) = None
sent_by (Some NotYet) = None

abbrev pub joined_by : Option Reply → Option Joining
joined_by None = None
joined_by (Some (Gives g)) = g.join
joined_by (Some (Traps why)) = None
joined_by (Some (Ends status)) = None
joined_by (Some NotYet) = None

-- the ranks are these two, in this order
abbrev pub is_pair : ℕ → ℕ → ℕ → ℕ → Bool
is_pair from to a b = from == a && to == b

-- what is sent from one rank to another, of what is sent
abbrev pub sent_between : Option SendOut → ℕ → ℕ → List Message
sent_between None from to = []
sent_between (Some send) from to = if is_pair from to send.message.sender.0 send.to.0 then send.message ∷ [] else []

abbrev pub with_given : Option Joining → (List Level → ℕ → ℕ → Option Arg) → List Level → ℕ → ℕ → Option Arg
with_given None given ctx position member = given ctx position member
with_given (Some j) given ctx position member =
    if is_same_ctx ctx j.group.ctx && position == j.position && member == j.arg.member then Some j.arg else given ctx position member

abbrev pub ticked_by : ℕ → Option Reply → World → World
ticked_by r reply w = record {
  rank = changed_at w.rank r (part_behind reply (w.rank r));
  queue = λ from to. w.queue from to ++ sent_between (sent_by reply) from to;
  given = with_given (joined_by reply) w.given;
}

-- ---- matches

-- a list without its first element that meets the test
abbrev pub without_first : {X : Type 0} → (X → Bool) → List X → List X
without_first test [] = []
without_first test (x ∷ xs) = if test x then xs else x ∷ without_first test xs

abbrev pub has_number : ℕ → Posted → Bool
has_number q receive = receive.request == q

-- the data of MPI once a posted receive has met its message
abbrev pub with_match : Posted → Message → MpiData → MpiData
with_match receive message mpi = record {
  own = mpi.own;
  posted = without_first (has_number receive.request) mpi.posted;
  matched = with_pair (record { receive = receive; message = message }) mpi.matched;
  joined = mpi.joined;
}

abbrev pub without_message : (ℕ → ℕ → List Message) → ℕ → ℕ → Posted → ℕ → ℕ → List Message
without_message queue s r receive from to =
    if is_pair from to s r then without_first (accepts receive) (queue from to) else queue from to

-- The receive meets the first message from s to r that it accepts.
abbrev pub met_by : ℕ → ℕ → Posted → Option Message → World → World
met_by r s receive None w = w
met_by r s receive (Some message) w = record {
  rank = changed_at w.rank r (with_mpi (with_match receive message (w.rank r).mpi) (w.rank r));
  queue = without_message w.queue s r receive;
  given = w.given;
}

abbrev pub matched_by : ℕ → ℕ → Option Posted → World → World
matched_by r s None w = w
matched_by r s (Some receive) w = met_by r s receive (find (accepts receive) (w.queue s r)) w

-- ---- gatherings

-- how many members the communicator of a context has
abbrev pub members_in : Option Communicator → ℕ
members_in None = 0
members_in (Some c) = length c.group.members

abbrev pub members_of : OwnData → List Level → ℕ
members_of own ctx = members_in (find (λ c. is_same_ctx c.group.ctx ctx) own.communicators)

-- one more in front, where there is that one and there are the others
abbrev pub in_front : Option Arg → Option (List Arg) → Option (List Arg)
in_front (Some arg) (Some args) = Some (arg ∷ args)
in_front (Some arg) None = None
in_front None args = None

-- what these members gave, if all of them gave something
abbrev pub all_given : (ℕ → Option Arg) → List ℕ → Option (List Arg)
all_given given [] = Some []
all_given given (member ∷ members) = in_front (given member) (all_given given members)

-- what all members of a collective gave, in member order, once all have joined it
abbrev pub args_for : World → OwnData → Joined → Option (List Arg)
args_for w own joined = all_given (w.given joined.ctx joined.position) (range_with_len 0 (members_of own joined.ctx))

abbrev pub with_args : Joined → Option (List Arg) → Joined
with_args joined args = record { ctx = joined.ctx; position = joined.position; arg = joined.arg; gathered = args }

abbrev pub with_joined : Joined → MpiData → MpiData
with_joined joined mpi = record { own = mpi.own; posted = mpi.posted; matched = mpi.matched; joined = Some joined }

abbrev pub gathered_by : ℕ → Option Joined → World → World
gathered_by r None w = w
gathered_by r (Some joined) w = record {
  rank = changed_at w.rank r
      (with_mpi (with_joined (with_args joined (args_for w (w.rank r).mpi.own joined)) (w.rank r).mpi) (w.rank r));
  queue = w.queue;
  given = w.given;
}

-- ---- the world after a history

-- The world after one more entry. A mark changes nothing.
unfoldable pub after : Setting → World → Entry → World
after s w (Tick r) = ticked_by r.0 (reply_for s r.0 (w.rank r.0)) w
after s w (Match r request sender) = matched_by r.0 sender.0 (find (has_number request) (w.rank r.0).mpi.posted) w
after s w (Gather r) = gathered_by r.0 (w.rank r.0).mpi.joined w
after s w Commit = w

abbrev pub after_all : Setting → World → List Entry → World
after_all s w [] = w
after_all s w (e ∷ h) = after_all s (after s w e) h

abbrev pub world_of : Setting → List Entry → World
world_of s h = after_all s (start_world s) h
