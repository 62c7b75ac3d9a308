-- What a call leaves of the receives that are posted, and of those that have their message.
use Rattle.std.proofs.Common.{ℕ, ◌≡◌, ◌∙◌, inl, inr, Bool, true, false, List, [], ◌∷◌, refl, Option, Some, None}
use Rattle.std.proofs.lemmas.Bool.{cases_Bool}
use Rattle.std.specs.Prelude.{ℤ, pos, not, ◌==◌, slice_index}
use Rattle.std.specs.Ordering.{int_eq}
use Rattle.am_base.specs.declared.calls.MpiCall.{MpiCall}
use Rattle.am_base.specs.declared.calls.MpiCall.TheVariants as call
use Rattle.am_base.specs.declared.traps.TrapCause.{TrapCause}
use Rattle.rank_range.specs.Areas.{Areas}
use Rattle.mpi_types.specs.declared.argument.Arg.{Arg}
use Rattle.mpi_types.specs.declared.argument.Joined.{Joined}
use Rattle.mpi_types.specs.declared.call.Call.{Call}
use Rattle.mpi_types.specs.declared.call.Write.{Write}
use Rattle.mpi_types.specs.declared.collective.Collective.{Collective}
use Rattle.mpi_types.specs.declared.collective.Collective.TheVariants as kind
use Rattle.mpi_types.specs.declared.constants.TheConstants.{PROC_NULL, COMM_NULL}
use Rattle.mpi_types.specs.declared.message.Posted.{Posted}
use Rattle.mpi_types.specs.declared.state.CompleteKind.TheVariants.{Send}
use Rattle.mpi_rules.specs.declared.arguments.CollectiveArgs.{CollectiveArgs}
use Rattle.mpi_rules.specs.declared.arguments.MessageArgs.{MessageArgs}
use Rattle.mpi_rules.specs.declared.faults.Faults.{Faults}
use Rattle.mpi_rules.specs.declared.faults.LateFaults.{LateFaults}
use Rattle.mpi_rules.specs.Calls.{reply, reply_to, receive_by, collective_by}
use Rattle.mpi_rules.specs.Collectives.{collective_args, join_reply, gathered_reply, gathered, joined}
use Rattle.mpi_rules.specs.Data.{MpiData, without, is_before, is_after, comm_facts}
use Rattle.mpi_rules.specs.Faults.{cause_of, late_cause_of}
use Rattle.mpi_rules.specs.Messages.{message_args, send_reply, isend_reply, receive_reply, ireceive_reply, receiving, request_write, send_of, own_with_complete}
use Rattle.mpi_rules.specs.Own.{init_reply, initialized_reply, finalized_reply, finalize_reply, rank_reply, size_reply, free_reply, abort_reply, flag_of, own_without_communicator}
use Rattle.mpi_rules.specs.Places.{int_of, int_write, variable_at}
use Rattle.mpi_rules.specs.Reply.{Given, Reply, Gives, Traps, Ends, NotYet, unless, checked, ended, answered, writing, quiet, with_own}
use Rattle.mpi_rules.specs.Requests.{Came, received_reply, received, wait_reply, waited, waitall_reply, waited_all, test_reply, tested, count_reply, came_reply, ending, all_ending}

-- The receives that are posted stay, but for one more that the call posts; and those that have their message stay where it posts one.
pub record KeepsLists (mpi : MpiData) (g : Given) : Type 0 where
  pub posted : g.after.posted ≡ mpi.posted
  pub matched : (q : Posted) → g.post ≡ Some q → g.after.matched ≡ mpi.matched

abbrev pub KeepsIn : MpiData → Reply → Type 0
KeepsIn mpi (Gives g) = KeepsLists mpi g
KeepsIn mpi (Traps why) = Unit {0}
KeepsIn mpi (Ends status) = Unit {0}
KeepsIn mpi NotYet = Unit {0}

no_post : (q : Posted) → None ≡ Some q → ⊥
no_post q e = cc

-- a call that posts nothing
posts_none : (mpi : MpiData) (g : Given) → g.post ≡ None → g.after.posted ≡ mpi.posted → KeepsLists mpi g
posts_none mpi g none same = record { posted = same; matched = λ q some. absurd (clash q (g.post) none some) }
  where
    clash : (q : Posted) (o : Option Posted) → o ≡ None → o ≡ Some q → ⊥
    clash q o a b = cc

-- a call that leaves all lists
keeps_all : (mpi : MpiData) (g : Given) → g.after.posted ≡ mpi.posted → g.after.matched ≡ mpi.matched → KeepsLists mpi g
keeps_all mpi g posted matched = record { posted = posted; matched = λ q some. matched }

unless_keeps : (mpi : MpiData) (o : Option TrapCause) (reply : Reply) → KeepsIn mpi reply → KeepsIn mpi (unless o reply)
unless_keeps mpi None reply h = h
unless_keeps mpi (Some why) reply h = tt

checked_keeps : (mpi : MpiData) (faults : Faults) (reply : Reply) → KeepsIn mpi reply → KeepsIn mpi (checked faults reply)
checked_keeps mpi faults reply h = unless_keeps mpi (cause_of faults) reply h

ended_keeps : (mpi : MpiData) (faults : LateFaults) (g : Given) → KeepsLists mpi g → KeepsIn mpi (ended faults g)
ended_keeps mpi faults g h = unless_keeps mpi (late_cause_of faults) (Gives g) h

answered_keeps : (mpi : MpiData) (areas : Areas) (g : Given) → KeepsLists mpi g → KeepsIn mpi (answered areas g)
answered_keeps mpi areas g h = ended_keeps mpi _ g h

-- ---- requests that end

without_posted : (n : ℕ) (mpi : MpiData) → (without n mpi).posted ≡ mpi.posted
unfolding without
without_posted n mpi = refl

ending_posted : (n : ℕ) (mpi : MpiData) → (ending n mpi).posted ≡ mpi.posted
ending_posted n mpi = elim (cases_Bool (n == 0)) [
  | inl t ↦ rw t refl
  | inr f ↦ rw f (without_posted n mpi)
]

all_ending_posted : (numbers : List ℕ) (mpi : MpiData) → (all_ending numbers mpi).posted ≡ mpi.posted
all_ending_posted [] mpi = refl
all_ending_posted (n ∷ numbers) mpi = all_ending_posted numbers (ending n mpi) ∙ ending_posted n mpi

writing_keeps : (mpi after : MpiData) (writes : List Write) → after.posted ≡ mpi.posted → KeepsLists mpi (writing after writes)
writing_keeps mpi after writes same = posts_none mpi (writing after writes) refl same

came_keeps : (areas : Areas) (mpi after : MpiData) (c : Came) (writes : List Write) → after.posted ≡ mpi.posted → KeepsIn mpi (came_reply areas after c writes)
came_keeps areas mpi after c writes same = ended_keeps mpi _ (writing after writes) (writing_keeps mpi after writes same)

received_keeps : (areas : Areas) (mpi : MpiData) (n status : ℕ) (o : Option Came) → KeepsIn mpi (received areas mpi n status o)
received_keeps areas mpi n status None = tt
received_keeps areas mpi n status (Some c) = came_keeps areas mpi (without n mpi) c _ (without_posted n mpi)

waited_keeps : (areas : Areas) (mpi : MpiData) (variable n status : ℕ) (o : Option Came) → KeepsIn mpi (waited areas mpi variable n status o)
waited_keeps areas mpi variable n status None = tt
waited_keeps areas mpi variable n status (Some c) = came_keeps areas mpi (ending n mpi) c _ (ending_posted n mpi)

tested_keeps : (areas : Areas) (mpi : MpiData) (variable n flag status : ℕ) (o : Option Came) → KeepsIn mpi (tested areas mpi variable n flag status o)
tested_keeps areas mpi variable n flag status None =
    answered_keeps mpi areas _ (writing_keeps mpi mpi (int_write flag (pos 0) ∷ []) refl)
tested_keeps areas mpi variable n flag status (Some c) = came_keeps areas mpi (ending n mpi) c _ (ending_posted n mpi)

all_keep : (areas : Areas) (mpi : MpiData) (requests status : ℕ) (numbers : List ℕ) (o : Option (List Came))
    → KeepsIn mpi (waited_all areas mpi requests status numbers o)
all_keep areas mpi requests status numbers None = tt
all_keep areas mpi requests status numbers (Some all) =
    ended_keeps mpi _ (writing (all_ending numbers mpi) _) (writing_keeps mpi (all_ending numbers mpi) _ (all_ending_posted numbers mpi))

-- ---- each call

init_keeps : (mpi : MpiData) → KeepsIn mpi (init_reply mpi)
unfolding init_reply
init_keeps mpi = checked_keeps mpi _ _ (posts_none mpi _ refl refl)

finalize_keeps : (mpi : MpiData) → KeepsIn mpi (finalize_reply mpi)
unfolding finalize_reply
finalize_keeps mpi = checked_keeps mpi _ _ (posts_none mpi _ refl refl)

initialized_keeps : (areas : Areas) (mpi : MpiData) (flag : ℕ) → KeepsIn mpi (initialized_reply areas mpi flag)
unfolding initialized_reply
initialized_keeps areas mpi flag =
    answered_keeps mpi areas _ (writing_keeps mpi mpi (int_write flag (flag_of (not (is_before mpi.own.phase))) ∷ []) refl)

finalized_keeps : (areas : Areas) (mpi : MpiData) (flag : ℕ) → KeepsIn mpi (finalized_reply areas mpi flag)
unfolding finalized_reply
finalized_keeps areas mpi flag =
    answered_keeps mpi areas _ (writing_keeps mpi mpi (int_write flag (flag_of (is_after mpi.own.phase)) ∷ []) refl)

rank_keeps : (areas : Areas) (mpi : MpiData) (comm : ℤ) (to : ℕ) → KeepsIn mpi (rank_reply areas mpi comm to)
unfolding rank_reply
rank_keeps areas mpi comm to =
    checked_keeps mpi _ _ (answered_keeps mpi areas _
    (writing_keeps mpi mpi (int_write to (pos (comm_facts areas.rank mpi.own comm).member) ∷ []) refl))

size_keeps : (areas : Areas) (mpi : MpiData) (comm : ℤ) (to : ℕ) → KeepsIn mpi (size_reply areas mpi comm to)
unfolding size_reply
size_keeps areas mpi comm to =
    checked_keeps mpi _ _ (answered_keeps mpi areas _
    (writing_keeps mpi mpi (int_write to (pos (comm_facts areas.rank mpi.own comm).members) ∷ []) refl))

free_keeps : (areas : Areas) (mpi : MpiData) (variable : ℕ) → KeepsIn mpi (free_reply areas mpi variable)
unfolding free_reply
free_keeps areas mpi variable =
    let comm : ℤ = int_of (variable_at areas variable) in
    checked_keeps mpi _ _ (answered_keeps mpi areas _
    (writing_keeps mpi (with_own (own_without_communicator comm mpi.own) mpi) (int_write variable COMM_NULL ∷ []) refl))

abort_keeps : (areas : Areas) (mpi : MpiData) (comm status : ℤ) → KeepsIn mpi (abort_reply areas mpi comm status)
unfolding abort_reply
abort_keeps areas mpi comm status = checked_keeps mpi _ (Ends status) tt

send_keeps : (areas : Areas) (mpi : MpiData) (args : MessageArgs) → KeepsIn mpi (send_reply areas mpi args)
unfolding send_reply
send_keeps areas mpi args = checked_keeps mpi _ _ (posts_none mpi _ refl refl)

isend_keeps : (areas : Areas) (mpi : MpiData) (args : MessageArgs) (variable : ℕ) → KeepsIn mpi (isend_reply areas mpi args variable)
unfolding isend_reply
isend_keeps areas mpi args variable =
    checked_keeps mpi _ _ (answered_keeps mpi areas _ (posts_none mpi (record (quiet (with_own (own_with_complete Send mpi.own) mpi)) {
      writes = request_write variable mpi.own.next ∷ [];
      send = send_of areas mpi args;
    }) refl refl))

receiving_posted : (mpi : MpiData) (args : MessageArgs) → (receiving mpi args).after.posted ≡ mpi.posted
receiving_posted mpi args = elim (cases_Bool (int_eq args.peer PROC_NULL)) [
  | inl t ↦ rw t refl
  | inr f ↦ rw f refl
]

receiving_matched : (mpi : MpiData) (args : MessageArgs) → (receiving mpi args).after.matched ≡ mpi.matched
receiving_matched mpi args = elim (cases_Bool (int_eq args.peer PROC_NULL)) [
  | inl t ↦ rw t refl
  | inr f ↦ rw f refl
]

receive_keeps : (areas : Areas) (mpi : MpiData) (args : MessageArgs) → KeepsIn mpi (receive_reply areas mpi args)
unfolding receive_reply
receive_keeps areas mpi args =
    checked_keeps mpi _ _ (keeps_all mpi (record (receiving mpi args) { answer = None }) (receiving_posted mpi args) (receiving_matched mpi args))

ireceive_keeps : (areas : Areas) (mpi : MpiData) (args : MessageArgs) (variable : ℕ) → KeepsIn mpi (ireceive_reply areas mpi args variable)
unfolding ireceive_reply
ireceive_keeps areas mpi args variable =
    checked_keeps mpi _ _ (answered_keeps mpi areas _ (keeps_all mpi (record (receiving mpi args) { writes = request_write variable mpi.own.next ∷ [] })
    (receiving_posted mpi args) (receiving_matched mpi args)))

receive_end_keeps : (areas : Areas) (mpi : MpiData) (status : ℕ) → KeepsIn mpi (received_reply areas mpi status)
unfolding received_reply
receive_end_keeps areas mpi status = received_keeps areas mpi _ status _

wait_keeps : (areas : Areas) (mpi : MpiData) (variable status : ℕ) → KeepsIn mpi (wait_reply areas mpi variable status)
unfolding wait_reply
wait_keeps areas mpi variable status = checked_keeps mpi _ _ (waited_keeps areas mpi variable _ status _)

waitall_keeps : (areas : Areas) (mpi : MpiData) (count : ℤ) (requests status : ℕ) → KeepsIn mpi (waitall_reply areas mpi count requests status)
unfolding waitall_reply
waitall_keeps areas mpi count requests status = checked_keeps mpi _ _ (all_keep areas mpi requests status _ _)

test_keeps : (areas : Areas) (mpi : MpiData) (variable flag status : ℕ) → KeepsIn mpi (test_reply areas mpi variable flag status)
unfolding test_reply
test_keeps areas mpi variable flag status = checked_keeps mpi _ _ (tested_keeps areas mpi variable _ flag status _)

count_keeps : (areas : Areas) (mpi : MpiData) (status : ℕ) (datatype : ℤ) (to : ℕ) → KeepsIn mpi (count_reply areas mpi status datatype to)
unfolding count_reply
count_keeps areas mpi status datatype to = checked_keeps mpi _ _ (ended_keeps mpi _ _ (writing_keeps mpi mpi _ refl))

join_keeps : (areas : Areas) (mpi : MpiData) (args : CollectiveArgs) → KeepsIn mpi (join_reply areas mpi args)
unfolding join_reply
join_keeps areas mpi args = checked_keeps mpi _ _ (posts_none mpi _ refl refl)

gathered_keeps : (areas : Areas) (mpi : MpiData) (args : CollectiveArgs) (j : Joined) (o : Option (List Arg)) → KeepsIn mpi (gathered areas mpi args j o)
gathered_keeps areas mpi args j None = tt
gathered_keeps areas mpi args j (Some list) = ended_keeps mpi _ _ (writing_keeps mpi _ _ refl)

joined_keeps : (areas : Areas) (mpi : MpiData) (args : CollectiveArgs) (o : Option Joined) → KeepsIn mpi (joined areas mpi args o)
joined_keeps areas mpi args None = tt
joined_keeps areas mpi args (Some j) = gathered_keeps areas mpi args j j.gathered

gather_keeps : (areas : Areas) (mpi : MpiData) (args : CollectiveArgs) → KeepsIn mpi (gathered_reply areas mpi args)
unfolding gathered_reply
gather_keeps areas mpi args = joined_keeps areas mpi args mpi.joined

receives_keep : (second : Bool) (areas : Areas) (mpi : MpiData) (words : List ℕ) → KeepsIn mpi (receive_by second areas mpi words)
receives_keep false areas mpi words = receive_keeps areas mpi (message_args words)
receives_keep true areas mpi words = receive_end_keeps areas mpi (slice_index words 6)

collectives_keep : (second : Bool) (k : Collective) (areas : Areas) (mpi : MpiData) (words : List ℕ) → KeepsIn mpi (collective_by second k areas mpi words)
collectives_keep false k areas mpi words = join_keeps areas mpi (collective_args k words)
collectives_keep true k areas mpi words = gather_keeps areas mpi (collective_args k words)

calls_keep : (name : MpiCall) (second : Bool) (words : List ℕ) (areas : Areas) (mpi : MpiData) → KeepsIn mpi (reply_to name second words areas mpi)
calls_keep call.Init second words areas mpi = init_keeps mpi
calls_keep call.Initialized second words areas mpi = initialized_keeps areas mpi _
calls_keep call.Finalized second words areas mpi = finalized_keeps areas mpi _
calls_keep call.Finalize second words areas mpi = finalize_keeps mpi
calls_keep call.CommRank second words areas mpi = rank_keeps areas mpi _ _
calls_keep call.CommSize second words areas mpi = size_keeps areas mpi _ _
calls_keep call.CommDup second words areas mpi = collectives_keep second kind.CommDup areas mpi words
calls_keep call.CommSplit second words areas mpi = collectives_keep second kind.CommSplit areas mpi words
calls_keep call.CommFree second words areas mpi = free_keeps areas mpi _
calls_keep call.Abort second words areas mpi = abort_keeps areas mpi _ _
calls_keep call.Send second words areas mpi = send_keeps areas mpi (message_args words)
calls_keep call.Recv second words areas mpi = receives_keep second areas mpi words
calls_keep call.Isend second words areas mpi = isend_keeps areas mpi (message_args words) _
calls_keep call.Irecv second words areas mpi = ireceive_keeps areas mpi (message_args words) _
calls_keep call.Wait second words areas mpi = wait_keeps areas mpi _ _
calls_keep call.Waitall second words areas mpi = waitall_keeps areas mpi _ _ _
calls_keep call.Test second words areas mpi = test_keeps areas mpi _ _ _
calls_keep call.GetCount second words areas mpi = count_keeps areas mpi _ _ _
calls_keep call.Barrier second words areas mpi = collectives_keep second kind.Barrier areas mpi words
calls_keep call.Bcast second words areas mpi = collectives_keep second kind.Bcast areas mpi words
calls_keep call.Reduce second words areas mpi = collectives_keep second kind.Reduce areas mpi words
calls_keep call.Allreduce second words areas mpi = collectives_keep second kind.Allreduce areas mpi words
calls_keep call.Scan second words areas mpi = collectives_keep second kind.Scan areas mpi words
calls_keep call.Gather second words areas mpi = collectives_keep second kind.Gather areas mpi words
calls_keep call.Scatter second words areas mpi = collectives_keep second kind.Scatter areas mpi words
calls_keep call.Allgather second words areas mpi = collectives_keep second kind.Allgather areas mpi words
calls_keep call.Alltoall second words areas mpi = collectives_keep second kind.Alltoall areas mpi words
calls_keep call.Migrate second words areas mpi = collectives_keep second kind.Migrate areas mpi words

pub replies_keep : (areas : Areas) (mpi : MpiData) (c : Call) → KeepsIn mpi (reply areas mpi c)
unfolding reply
replies_keep areas mpi c = calls_keep c.name c.second c.args areas mpi
