-- Of each call, that its answer may come.
use Rattle.std.proofs.Common.{◌≡◌, ℕ, ℤ, pos, ◌+◌, ◌-◌, ◌==◌, Bool, true, false, cond, ◌||◌, not, List, [], ◌∷◌, length, drop, rules, refl, sym, subst, Option, Some, None}
use Rattle.std.specs.Prelude.{IfSome, FitsSigned, option_map, option_and_then}
use Rattle.std.specs.List.{AllByRecursion}
use Rattle.std.specs.Int.{w32}
use Rattle.std.specs.Ordering.{int_eq}
use Rattle.byteorder.specs.Endian.{little_number}
use Rattle.am_base.specs.declared.calls.MpiCall.{MpiCall}
use Rattle.am_base.specs.declared.calls.MpiCall.TheVariants as call
use Rattle.rank_range.specs.Areas.{Areas}
use Rattle.mpi_types.specs.declared.argument.Arg.{Arg}
use Rattle.mpi_types.specs.declared.argument.Joined.{Joined}
use Rattle.mpi_types.specs.declared.call.Write.{Write}
use Rattle.mpi_types.specs.declared.collective.Collective.{Collective}
use Rattle.mpi_types.specs.declared.collective.Collective.TheVariants.{Barrier, Bcast, Reduce, Allreduce, Scan, Gather, Scatter, Allgather, Alltoall, CommDup, CommSplit, Migrate}
use Rattle.mpi_types.specs.declared.constants.TheConstants.{COMM_NULL, PROC_NULL}
use Rattle.mpi_types.specs.declared.group.Group.{Group}
use Rattle.mpi_types.specs.declared.lists.MatchedPair.{MatchedPair}
use Rattle.mpi_types.specs.declared.state.CompleteRequest.{CompleteRequest}
use Rattle.mpi_types.specs.declared.state.CompleteKind.TheVariants.{Send, NoProcess}
use Rattle.mpi_types.specs.declared.state.Phase.TheVariants.{Running, After}
use Rattle.mpi_types.specs.Collected.{size_of}
use Rattle.mpi_rules.specs.declared.arguments.CollectiveArgs.{CollectiveArgs}
use Rattle.mpi_rules.specs.declared.arguments.MessageArgs.{MessageArgs}
use Rattle.mpi_rules.specs.Answers.{AreBytes, FitsMemory, FitsData, HasBytes, RepliesMayCome}
use Rattle.mpi_rules.specs.Calls.{reply, reply_to, receive_by, collective_by}
use Rattle.mpi_rules.specs.Collectives.{join_reply, gathered_reply, joined, gathered, gathered_writes, made_writes, made_number, share_in}
use Rattle.mpi_rules.specs.Data.{MpiData, is_before, is_after, comm_facts, complete_of, pair_of}
use Rattle.mpi_rules.specs.Messages.{send_of, send_reply, isend_reply, receive_reply, ireceive_reply, request_write, receiving, own_with_complete, own_with_next, post_of}
use Rattle.mpi_rules.specs.Own.{flag_of, with_phase, own_without_communicator, init_reply, initialized_reply, finalized_reply, finalize_reply, rank_reply, size_reply, free_reply, abort_reply}
use Rattle.mpi_rules.specs.Places.{is_open, are_open, count_of, datatype_named, read_at, variable_at, int_of, int_write, write_of}
use Rattle.mpi_rules.specs.Reply.{Given, Gives, quiet, with_own, writing, answered}
use Rattle.mpi_rules.specs.Requests.{Came, came_in, came_without, empty_status, came_of_kind, completion, came_of, is_long, has_buffer, has_statuses, came_writes, came_reply, variable_writes, received, received_reply, waited, wait_reply, tested, test_reply, all_came, all_writes, next_status, waited_all, waitall_reply, numbers_at, count_value, count_reply}
use Rattle.mpi_rules.proofs.ByteLemmas.{all_append, all_found, given_bytes}
use Rattle.mpi_rules.proofs.ComeLemmas.{Comes, FitsAnswer, fits_int, gives_comes, checked_comes, ended_comes, not_false, or_false, answered_comes, int_is, request_is, body_is, status_is}
use Rattle.mpi_rules.proofs.OpenLemmas.{IsWrite}

-- the answer 0
zero_fits : FitsSigned w32 (pos 0)
zero_fits = search rules

-- ---- a rank's own data

quiet_comes : (areas : Areas) (mpi : MpiData) → FitsMemory areas → Comes areas (Gives (quiet mpi))
quiet_comes areas mpi memory = gives_comes areas (quiet mpi) memory zero_fits tt refl

-- a call that writes one thing, whatever else it leads to
one_comes : (areas : Areas) (given : Given) (w : Write) → FitsMemory areas → FitsAnswer given.answer → IsWrite w → given.writes ≡ w ∷ []
    → Comes areas (answered areas given)
one_comes areas given w memory fits is one =
    answered_comes areas given memory fits (subst (AllByRecursion IsWrite) (sym one) (is, tt))

int_comes : (areas : Areas) (mpi : MpiData) (a : ℕ) (n : ℤ) → FitsMemory areas → Comes areas (answered areas (writing mpi (int_write a n ∷ [])))
int_comes areas mpi a n memory = one_comes areas (writing mpi (int_write a n ∷ [])) (int_write a n) memory zero_fits (int_is a n) refl

init_comes : (areas : Areas) (mpi : MpiData) → FitsMemory areas → Comes areas (init_reply mpi)
unfolding init_reply
init_comes areas mpi memory = checked_comes areas _ _ (quiet_comes areas (with_phase Running mpi) memory)

finalize_comes : (areas : Areas) (mpi : MpiData) → FitsMemory areas → Comes areas (finalize_reply mpi)
unfolding finalize_reply
finalize_comes areas mpi memory = checked_comes areas _ _ (quiet_comes areas (with_phase After mpi) memory)

initialized_comes : (areas : Areas) (mpi : MpiData) (a : ℕ) → FitsMemory areas → Comes areas (initialized_reply areas mpi a)
unfolding initialized_reply
initialized_comes areas mpi a memory = int_comes areas mpi a (flag_of (not (is_before mpi.own.phase))) memory

finalized_comes : (areas : Areas) (mpi : MpiData) (a : ℕ) → FitsMemory areas → Comes areas (finalized_reply areas mpi a)
unfolding finalized_reply
finalized_comes areas mpi a memory = int_comes areas mpi a (flag_of (is_after mpi.own.phase)) memory

rank_comes : (areas : Areas) (mpi : MpiData) (comm : ℤ) (a : ℕ) → FitsMemory areas → Comes areas (rank_reply areas mpi comm a)
unfolding rank_reply
rank_comes areas mpi comm a memory =
    checked_comes areas _ _ (int_comes areas mpi a (pos (comm_facts areas.rank mpi.own comm).member) memory)

size_comes : (areas : Areas) (mpi : MpiData) (comm : ℤ) (a : ℕ) → FitsMemory areas → Comes areas (size_reply areas mpi comm a)
unfolding size_reply
size_comes areas mpi comm a memory =
    checked_comes areas _ _ (int_comes areas mpi a (pos (comm_facts areas.rank mpi.own comm).members) memory)

free_comes : (areas : Areas) (mpi : MpiData) (a : ℕ) → FitsMemory areas → Comes areas (free_reply areas mpi a)
unfolding free_reply
free_comes areas mpi a memory =
    let comm : ℤ = int_of (variable_at areas a) in
    checked_comes areas _ _ (int_comes areas (with_own (own_without_communicator comm mpi.own) mpi) a COMM_NULL memory)

abort_comes : (areas : Areas) (mpi : MpiData) (comm : ℤ) (word : ℕ) → Comes areas (abort_reply areas mpi comm (int_of word))
unfolding abort_reply
abort_comes areas mpi comm word = checked_comes areas _ _ (fits_int word)

-- ---- sends and receives

send_comes : (areas : Areas) (mpi : MpiData) (args : MessageArgs) → FitsMemory areas → Comes areas (send_reply areas mpi args)
unfolding send_reply
send_comes areas mpi args memory =
    checked_comes areas _ _ (gives_comes areas (record (quiet mpi) { send = send_of areas mpi args }) memory zero_fits tt refl)

isend_comes : (areas : Areas) (mpi : MpiData) (args : MessageArgs) (a : ℕ) → FitsMemory areas → Comes areas (isend_reply areas mpi args a)
unfolding isend_reply
isend_comes areas mpi args a memory =
    let given : Given =
    record (quiet (with_own (own_with_complete Send mpi.own) mpi)) {
      writes = request_write a mpi.own.next ∷ [];
      send = send_of areas mpi args;
    } in
    checked_comes areas _ _ (one_comes areas given (request_write a mpi.own.next) memory zero_fits (request_is a mpi.own.next) refl)

-- a receive from nobody or from somebody writes nothing, and its answer fits
receiving_fits : (mpi : MpiData) (args : MessageArgs) → FitsAnswer (receiving mpi args).answer
receiving_fits mpi args =
    elim (int_eq args.peer PROC_NULL) as (λ b. FitsAnswer (cond b (quiet (with_own (own_with_complete NoProcess mpi.own) mpi))
    (record (quiet (with_own (own_with_next mpi.own) mpi)) { post = Some (post_of mpi args) })).answer)
    [ true ↦ zero_fits | false ↦ zero_fits ]

receive_comes : (areas : Areas) (mpi : MpiData) (args : MessageArgs) → FitsMemory areas → Comes areas (receive_reply areas mpi args)
unfolding receive_reply
receive_comes areas mpi args memory = checked_comes areas _ _ tt

ireceive_comes : (areas : Areas) (mpi : MpiData) (args : MessageArgs) (a : ℕ) → FitsMemory areas → Comes areas (ireceive_reply areas mpi args a)
unfolding ireceive_reply
ireceive_comes areas mpi args a memory =
    let given : Given = record (receiving mpi args) { writes = request_write a mpi.own.next ∷ [] } in
    checked_comes areas _ _ (one_comes areas given (request_write a mpi.own.next) memory (receiving_fits mpi args) (request_is a mpi.own.next) refl)

-- ---- requests

came_bytes : (r : Option CompleteRequest) (p : Option MatchedPair) → IfSome p (λ x. AreBytes x.message.body)
    → IfSome (came_in r p) (λ c. AreBytes c.body)
came_bytes None None h = tt
came_bytes None (Some p) h = h
came_bytes (Some r) p h = elim r.kind as (λ k. AreBytes (came_of_kind k).body) [ Send ↦ tt | NoProcess ↦ tt ]

completion_bytes : (mpi : MpiData) (n : ℕ) → FitsData mpi → IfSome (completion mpi n) (λ c. AreBytes c.body)
unfolding completion
completion_bytes mpi n fits =
    came_bytes (complete_of n mpi.own.complete) (pair_of n mpi.matched) (all_found (λ (x : MatchedPair). AreBytes x.message.body) _ mpi.matched fits.messages)

came_of_bytes : (mpi : MpiData) (n : ℕ) → FitsData mpi → IfSome (came_of mpi n) (λ c. AreBytes c.body)
came_of_bytes mpi n fits =
    elim (n == 0) as (λ b. IfSome (cond b (Some (came_without empty_status)) (completion mpi n)) (λ (c : Came). AreBytes c.body))
    [ true ↦ tt | false ↦ completion_bytes mpi n fits ]

variable_are : (variable n : ℕ) → AllByRecursion IsWrite (variable_writes variable n)
variable_are variable n =
    elim (n == 0) as (λ b. AllByRecursion IsWrite (cond b [] (request_write variable 0 ∷ []))) [ true ↦ tt | false ↦ (request_is variable 0, tt) ]

came_are : (c : Came) (variable others : List Write) (status : ℕ) → AreBytes c.body → AllByRecursion IsWrite variable
    → AllByRecursion IsWrite others → AllByRecursion IsWrite (came_writes c variable others status)
came_are c variable others status bytes v o =
    all_append IsWrite (write_of c.buffer c.body) _ (body_is c.buffer c.body bytes)
    (all_append IsWrite variable _ v (all_append IsWrite others _ o (status_is status c.status)))

came_comes : (areas : Areas) (after : MpiData) (c : Came) (writes : List Write) → FitsMemory areas → AllByRecursion IsWrite writes
    → Comes areas (came_reply areas after c writes)
came_comes areas after c writes memory are =
    ended_comes areas (is_long c) false (not (has_buffer areas c) || not (are_open areas writes)) (writing after writes) memory zero_fits are
    (λ no. not_false (are_open areas writes) (or_false (not (has_buffer areas c)) (not (are_open areas writes)) no))

received_by : (areas : Areas) (mpi : MpiData) (n status : ℕ) (o : Option Came) → FitsMemory areas → IfSome o (λ c. AreBytes c.body)
    → Comes areas (received areas mpi n status o)
received_by areas mpi n status None memory h = tt
received_by areas mpi n status (Some c) memory h = came_comes areas _ c _ memory (came_are c [] [] status h tt tt)

received_comes : (areas : Areas) (mpi : MpiData) (status : ℕ) → FitsMemory areas → FitsData mpi → Comes areas (received_reply areas mpi status)
unfolding received_reply
received_comes areas mpi status memory fits =
    received_by areas mpi (mpi.own.next - 1) status _ memory (completion_bytes mpi (mpi.own.next - 1) fits)

waited_by : (areas : Areas) (mpi : MpiData) (variable n status : ℕ) (o : Option Came) → FitsMemory areas → IfSome o (λ c. AreBytes c.body)
    → Comes areas (waited areas mpi variable n status o)
waited_by areas mpi variable n status None memory h = tt
waited_by areas mpi variable n status (Some c) memory h = came_comes areas _ c _ memory (came_are c _ [] status h (variable_are variable n) tt)

wait_comes : (areas : Areas) (mpi : MpiData) (variable status : ℕ) → FitsMemory areas → FitsData mpi → Comes areas (wait_reply areas mpi variable status)
unfolding wait_reply
wait_comes areas mpi variable status memory fits =
    checked_comes areas _ _ (waited_by areas mpi variable _ status _ memory (came_of_bytes mpi _ fits))

tested_by : (areas : Areas) (mpi : MpiData) (variable n flag status : ℕ) (o : Option Came) → FitsMemory areas → IfSome o (λ c. AreBytes c.body)
    → Comes areas (tested areas mpi variable n flag status o)
tested_by areas mpi variable n flag status None memory h = int_comes areas mpi flag (pos 0) memory
tested_by areas mpi variable n flag status (Some c) memory h =
    came_comes areas _ c _ memory (came_are c _ (int_write flag (pos 1) ∷ []) status h (variable_are variable n) (int_is flag (pos 1), tt))

test_comes : (areas : Areas) (mpi : MpiData) (variable flag status : ℕ) → FitsMemory areas → FitsData mpi
    → Comes areas (test_reply areas mpi variable flag status)
unfolding test_reply
test_comes areas mpi variable flag status memory fits =
    checked_comes areas _ _ (tested_by areas mpi variable _ flag status _ memory (came_of_bytes mpi _ fits))

-- ---- Waitall

joined_bytes : (c : Option Came) (more : Option (List Came)) → IfSome c (λ x. AreBytes x.body) → IfSome more (AllByRecursion (λ x. AreBytes x.body))
    → IfSome (option_and_then (λ x. option_map (λ xs. x ∷ xs) more) c) (AllByRecursion (λ x. AreBytes x.body))
joined_bytes None more h k = tt
joined_bytes (Some c) None h k = tt
joined_bytes (Some c) (Some more) h k = (h, k)

all_came_bytes : (mpi : MpiData) (numbers : List ℕ) → FitsData mpi → IfSome (all_came mpi numbers) (AllByRecursion (λ x. AreBytes x.body))
all_came_bytes mpi [] fits = tt
all_came_bytes mpi (n ∷ numbers) fits =
    joined_bytes (came_of mpi n) (all_came mpi numbers) (came_of_bytes mpi n fits) (all_came_bytes mpi numbers fits)

all_are : (variable status : ℕ) (numbers : List ℕ) (all : List Came) → AllByRecursion (λ x. AreBytes x.body) all
    → AllByRecursion IsWrite (all_writes variable status numbers all)
all_are variable status [] all h = tt
all_are variable status (n ∷ numbers) [] h = tt
all_are variable status (n ∷ numbers) (c ∷ all) h =
    all_append IsWrite (came_writes c (variable_writes variable n) [] status) _ (came_are c _ [] status h.0 (variable_are variable n) tt)
    (all_are (variable + 4) (next_status status) numbers all h.1)

waited_all_by : (areas : Areas) (mpi : MpiData) (requests status : ℕ) (numbers : List ℕ) (o : Option (List Came)) → FitsMemory areas
    → IfSome o (AllByRecursion (λ x. AreBytes x.body)) → Comes areas (waited_all areas mpi requests status numbers o)
waited_all_by areas mpi requests status numbers None memory h = tt
waited_all_by areas mpi requests status numbers (Some all) memory h =
    let writes : List Write = all_writes requests status numbers all in
    ended_comes areas _ false _ _ memory zero_fits (all_are requests status numbers all h)
    (λ no. not_false (are_open areas writes) (or_false (not (has_statuses areas status (length all))) (not (are_open areas writes)) (or_false _ _ no)))

waitall_comes : (areas : Areas) (mpi : MpiData) (count : ℤ) (requests status : ℕ) → FitsMemory areas → FitsData mpi
    → Comes areas (waitall_reply areas mpi count requests status)
unfolding waitall_reply
waitall_comes areas mpi count requests status memory fits =
    let numbers : List ℕ = numbers_at areas requests (count_of count) in
    checked_comes areas _ _ (waited_all_by areas mpi requests status numbers (all_came mpi numbers) memory (all_came_bytes mpi numbers fits))

count_comes : (areas : Areas) (mpi : MpiData) (status : ℕ) (datatype : ℤ) (a : ℕ) → FitsMemory areas → Comes areas (count_reply areas mpi status datatype a)
unfolding count_reply
count_comes areas mpi status datatype a memory =
    let bytes : ℤ = int_of (little_number 4 (drop 12 (read_at areas status 16))) in
    let writes : List Write = int_write a (count_value bytes (size_of (datatype_named datatype))) ∷ [] in
    checked_comes areas _ _ (ended_comes areas false false (not (is_open areas status 16) || not (are_open areas writes)) (writing mpi writes) memory zero_fits
    (int_is a (count_value bytes (size_of (datatype_named datatype))), tt)
    (λ no. not_false (are_open areas writes) (or_false (not (is_open areas status 16)) (not (are_open areas writes)) no)))

-- ---- collectives

join_comes : (areas : Areas) (mpi : MpiData) (args : CollectiveArgs) → FitsMemory areas → Comes areas (join_reply areas mpi args)
unfolding join_reply
join_comes areas mpi args memory = checked_comes areas _ _ tt

made_are : (kind : Collective) (a : ℕ) (n : ℤ) → AllByRecursion IsWrite (made_writes kind a n)
made_are Barrier a n = tt
made_are Bcast a n = tt
made_are Reduce a n = tt
made_are Allreduce a n = tt
made_are Scan a n = tt
made_are Gather a n = tt
made_are Scatter a n = tt
made_are Allgather a n = tt
made_are Alltoall a n = tt
made_are CommDup a n = (int_is a n, tt)
made_are CommSplit a n = (int_is a n, tt)
made_are Migrate a n = tt

gathered_are : (mpi : MpiData) (args : CollectiveArgs) (own : Arg) (list : List Arg) (made : Option Group) → AllByRecursion (λ a. AreBytes a.body) list
    → AllByRecursion IsWrite (gathered_writes mpi args own list made)
gathered_are mpi args own list made h =
    all_append IsWrite (write_of args.received.address (share_in own list)) _ (body_is args.received.address (share_in own list) (given_bytes own list h))
    (made_are args.kind args.made (made_number made mpi.own))

gathered_by : (areas : Areas) (mpi : MpiData) (args : CollectiveArgs) (j : Joined) (o : Option (List Arg)) → FitsMemory areas
    → IfSome o (AllByRecursion (λ a. AreBytes a.body)) → Comes areas (gathered areas mpi args j o)
gathered_by areas mpi args j None memory h = tt
gathered_by areas mpi args j (Some list) memory h =
    ended_comes areas false _ _ _ memory zero_fits (gathered_are mpi args j.arg list _ h) (λ no. not_false _ no)

joined_by : (areas : Areas) (mpi : MpiData) (args : CollectiveArgs) (o : Option Joined) → FitsMemory areas → IfSome o HasBytes
    → Comes areas (joined areas mpi args o)
joined_by areas mpi args None memory h = tt
joined_by areas mpi args (Some j) memory h = gathered_by areas mpi args j j.gathered memory h

gathered_comes : (areas : Areas) (mpi : MpiData) (args : CollectiveArgs) → FitsMemory areas → FitsData mpi → Comes areas (gathered_reply areas mpi args)
unfolding gathered_reply
gathered_comes areas mpi args memory fits = joined_by areas mpi args mpi.joined memory fits.arguments

-- ---- all calls

receive_by_comes : (second : Bool) (areas : Areas) (mpi : MpiData) (words : List ℕ) → FitsMemory areas → FitsData mpi
    → Comes areas (receive_by second areas mpi words)
receive_by_comes false areas mpi words memory fits = receive_comes areas mpi _ memory
receive_by_comes true areas mpi words memory fits = received_comes areas mpi _ memory fits

collective_comes : (second : Bool) (kind : Collective) (areas : Areas) (mpi : MpiData) (words : List ℕ) → FitsMemory areas → FitsData mpi
    → Comes areas (collective_by second kind areas mpi words)
collective_comes false kind areas mpi words memory fits = join_comes areas mpi _ memory
collective_comes true kind areas mpi words memory fits = gathered_comes areas mpi _ memory fits

all_calls_come : (name : MpiCall) (second : Bool) (words : List ℕ) (areas : Areas) (mpi : MpiData) → FitsMemory areas → FitsData mpi
    → Comes areas (reply_to name second words areas mpi)
all_calls_come call.Init second words areas mpi memory fits = init_comes areas mpi memory
all_calls_come call.Initialized second words areas mpi memory fits = initialized_comes areas mpi _ memory
all_calls_come call.Finalized second words areas mpi memory fits = finalized_comes areas mpi _ memory
all_calls_come call.Finalize second words areas mpi memory fits = finalize_comes areas mpi memory
all_calls_come call.CommRank second words areas mpi memory fits = rank_comes areas mpi _ _ memory
all_calls_come call.CommSize second words areas mpi memory fits = size_comes areas mpi _ _ memory
all_calls_come call.CommDup second words areas mpi memory fits = collective_comes second _ areas mpi words memory fits
all_calls_come call.CommSplit second words areas mpi memory fits = collective_comes second _ areas mpi words memory fits
all_calls_come call.CommFree second words areas mpi memory fits = free_comes areas mpi _ memory
all_calls_come call.Abort second words areas mpi memory fits = abort_comes areas mpi _ _
all_calls_come call.Send second words areas mpi memory fits = send_comes areas mpi _ memory
all_calls_come call.Recv second words areas mpi memory fits = receive_by_comes second areas mpi words memory fits
all_calls_come call.Isend second words areas mpi memory fits = isend_comes areas mpi _ _ memory
all_calls_come call.Irecv second words areas mpi memory fits = ireceive_comes areas mpi _ _ memory
all_calls_come call.Wait second words areas mpi memory fits = wait_comes areas mpi _ _ memory fits
all_calls_come call.Waitall second words areas mpi memory fits = waitall_comes areas mpi _ _ _ memory fits
all_calls_come call.Test second words areas mpi memory fits = test_comes areas mpi _ _ _ memory fits
all_calls_come call.GetCount second words areas mpi memory fits = count_comes areas mpi _ _ _ memory
all_calls_come call.Barrier second words areas mpi memory fits = collective_comes second _ areas mpi words memory fits
all_calls_come call.Bcast second words areas mpi memory fits = collective_comes second _ areas mpi words memory fits
all_calls_come call.Reduce second words areas mpi memory fits = collective_comes second _ areas mpi words memory fits
all_calls_come call.Allreduce second words areas mpi memory fits = collective_comes second _ areas mpi words memory fits
all_calls_come call.Scan second words areas mpi memory fits = collective_comes second _ areas mpi words memory fits
all_calls_come call.Gather second words areas mpi memory fits = collective_comes second _ areas mpi words memory fits
all_calls_come call.Scatter second words areas mpi memory fits = collective_comes second _ areas mpi words memory fits
all_calls_come call.Allgather second words areas mpi memory fits = collective_comes second _ areas mpi words memory fits
all_calls_come call.Alltoall second words areas mpi memory fits = collective_comes second _ areas mpi words memory fits
all_calls_come call.Migrate second words areas mpi memory fits = collective_comes second _ areas mpi words memory fits

pub replies_may_come : RepliesMayCome
unfolding reply
replies_may_come areas mpi c memory fits = all_calls_come c.name c.second c.args areas mpi memory fits
