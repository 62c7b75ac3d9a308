-- The requests of a rank stay in order where a call ends.
use Rattle.std.proofs.Common.{ℕ, ◌<◌, ◌==◌, not, true, false, cond, List, [], ◌∷◌, sym, subst, Option, Some, None}
use Rattle.std.specs.Prelude.{ℤ, slice_index}
use Rattle.std.proofs.lemmas.List.Elements.{All-filter}
use Rattle.am_base.specs.declared.calls.MpiCall.TheVariants as call
use Rattle.am_base.specs.declared.traps.TrapCause.{TrapCause}
use Rattle.rank_range.specs.Areas.{Areas}
use Rattle.mpi_types.specs.declared.argument.Arg.{Arg}
use Rattle.mpi_types.specs.declared.argument.Joined.{Joined}
use Rattle.mpi_types.specs.declared.call.Write.{Write}
use Rattle.mpi_types.specs.declared.collective.Collective.TheVariants as kind
use Rattle.mpi_types.specs.declared.group.Group.{Group}
use Rattle.mpi_types.specs.declared.lists.BookLists.{BookLists}
use Rattle.mpi_types.specs.declared.message.Message.{Message}
use Rattle.mpi_types.specs.declared.state.OwnData.{OwnData}
use Rattle.mpi_rules.specs.declared.arguments.CollectiveArgs.{CollectiveArgs}
use Rattle.mpi_rules.specs.declared.faults.LateFaults.{LateFaults}
use Rattle.mpi_rules.specs.Collectives.{collective_args, gathered_data, gathered_reply, joined, gathered as gathered_of}
use Rattle.mpi_rules.specs.Data.{MpiData, without}
use Rattle.mpi_rules.specs.Faults.{cause_of, late_cause_of}
use Rattle.mpi_rules.specs.Places.{int_at, count_of, variable_at}
use Rattle.mpi_rules.specs.Reply.{Reply, Gives, unless, ended, writing}
use Rattle.mpi_rules.specs.Requests.{Came, completion, came_of, ending, all_ending, all_came, numbers_at, received, received_reply, waited, wait_reply, tested, test_reply, waited_all, waitall_reply, variable_faults, waitall_faults}
use Rattle.mpi_call.specs.declared.done.Done.{Done}
use Rattle.mpi_call.specs.Answers.{Kept, kept, data_in, DoesGive, IsGiven}
use Rattle.mpi_call.specs.InOrder.{AreInOrder, StayInOrder}
use Rattle.mpi_call.proofs.ArrayLemmas.{lists_with, apart_without}

-- the requests of the data, whatever has arrived
abbrev Ordered : MpiData → List Message → Type 0
Ordered mpi arrived = AreInOrder mpi.own (lists_with mpi arrived)

abbrev kept_of : MpiData → List Message → Kept
kept_of mpi arrived = kept mpi.own (record { joined = mpi.joined; tree = [] }) (lists_with mpi arrived)

without_ordered : (mpi : MpiData) (n : ℕ) (arrived : List Message) → Ordered mpi arrived → Ordered (without n mpi) arrived
unfolding without
without_ordered mpi n arrived o = record {
  apart = apart_without (kept_of mpi arrived) n arrived o.apart;
  next = record {
    above_posted = o.next.above_posted;
    above_matched = All-filter (λ p. not (p.receive.request == n)) (λ p. p.receive.request < mpi.own.next) mpi.matched o.next.above_matched;
  };
  below = All-filter (λ r. not (r.number == n)) (λ r. r.number < mpi.own.next) mpi.own.complete o.below;
}

ending_ordered : (mpi : MpiData) (n : ℕ) (arrived : List Message) → Ordered mpi arrived → Ordered (ending n mpi) arrived
ending_ordered mpi n arrived o =
    elim (n == 0) as (λ b. Ordered (cond b mpi (without n mpi)) arrived) [ true ↦ o | false ↦ without_ordered mpi n arrived o ]

all_ordered : (mpi : MpiData) (numbers : List ℕ) (arrived : List Message) → Ordered mpi arrived → Ordered (all_ending numbers mpi) arrived
all_ordered mpi [] arrived o = o
all_ordered mpi (n ∷ numbers) arrived o = all_ordered (ending n mpi) numbers arrived (ending_ordered mpi n arrived o)

made_ordered : (mpi : MpiData) (made : Option Group) (arrived : List Message) → Ordered mpi arrived → Ordered (gathered_data mpi made) arrived
made_ordered mpi None arrived o =
    record { apart = record { orderly = o.apart.orderly; apart = o.apart.apart }; next = record { above_posted = o.next.above_posted; above_matched = o.next.above_matched }; below = o.below }
made_ordered mpi (Some g) arrived o =
    record { apart = record { orderly = o.apart.orderly; apart = o.apart.apart }; next = record { above_posted = o.next.above_posted; above_matched = o.next.above_matched }; below = o.below }

-- ---- what is given

pub given_of : (o : Option TrapCause) (r : Reply) (done : Done) (old new : Kept) → DoesGive (unless o r) done old new → DoesGive r done old new
given_of None r done old new h = h
given_of (Some why) r done old new h = absurd h

given_ordered : (after : MpiData) (writes : List Write) (done : Done) (old new : Kept) → Ordered after old.lists.arrived
    → IsGiven (writing after writes) done old new → AreInOrder new.own new.lists
given_ordered after writes done old new o given =
    subst (λ (own : OwnData). AreInOrder own new.lists) (sym given.own_is)
    (subst (λ (lists : BookLists). AreInOrder after.own lists) (sym given.book.1) o)

ended_ordered : (f : LateFaults) (after : MpiData) (writes : List Write) (done : Done) (old new : Kept) → Ordered after old.lists.arrived
    → DoesGive (ended f (writing after writes)) done old new → AreInOrder new.own new.lists
ended_ordered f after writes done old new o h =
    given_ordered after writes done old new o (given_of (late_cause_of f) (Gives (writing after writes)) done old new h)

-- ---- the calls

received_ordered : (areas : Areas) (mpi : MpiData) (n status : ℕ) (o : Option Came) (done : Done) (old new : Kept) → Ordered mpi old.lists.arrived
    → DoesGive (received areas mpi n status o) done old new → AreInOrder new.own new.lists
received_ordered areas mpi n status None done old new order h = absurd h
received_ordered areas mpi n status (Some c) done old new order h = ended_ordered _ (without n mpi) _ done old new (without_ordered mpi n old.lists.arrived order) h

waited_ordered : (areas : Areas) (mpi : MpiData) (variable n status : ℕ) (o : Option Came) (done : Done) (old new : Kept) → Ordered mpi old.lists.arrived
    → DoesGive (waited areas mpi variable n status o) done old new → AreInOrder new.own new.lists
waited_ordered areas mpi variable n status None done old new order h = absurd h
waited_ordered areas mpi variable n status (Some c) done old new order h = ended_ordered _ (ending n mpi) _ done old new (ending_ordered mpi n old.lists.arrived order) h

tested_ordered : (areas : Areas) (mpi : MpiData) (variable n flag status : ℕ) (o : Option Came) (done : Done) (old new : Kept) → Ordered mpi old.lists.arrived
    → DoesGive (tested areas mpi variable n flag status o) done old new → AreInOrder new.own new.lists
tested_ordered areas mpi variable n flag status None done old new order h = ended_ordered _ mpi _ done old new order h
tested_ordered areas mpi variable n flag status (Some c) done old new order h = ended_ordered _ (ending n mpi) _ done old new (ending_ordered mpi n old.lists.arrived order) h

all_waited_ordered : (areas : Areas) (mpi : MpiData) (requests status : ℕ) (numbers : List ℕ) (o : Option (List Came)) (done : Done) (old new : Kept)
    → Ordered mpi old.lists.arrived → DoesGive (waited_all areas mpi requests status numbers o) done old new → AreInOrder new.own new.lists
all_waited_ordered areas mpi requests status numbers None done old new order h = absurd h
all_waited_ordered areas mpi requests status numbers (Some came) done old new order h =
    ended_ordered _ (all_ending numbers mpi) _ done old new (all_ordered mpi numbers old.lists.arrived order) h

gathered_ordered : (areas : Areas) (mpi : MpiData) (args : CollectiveArgs) (j : Joined) (o : Option (List Arg)) (done : Done) (old new : Kept)
    → Ordered mpi old.lists.arrived → DoesGive (gathered_of areas mpi args j o) done old new → AreInOrder new.own new.lists
gathered_ordered areas mpi args j None done old new order h = absurd h
gathered_ordered areas mpi args j (Some list) done old new order h =
    ended_ordered _ (gathered_data mpi _) _ done old new (made_ordered mpi _ old.lists.arrived order) h

joined_ordered : (areas : Areas) (mpi : MpiData) (args : CollectiveArgs) (o : Option Joined) (done : Done) (old new : Kept)
    → Ordered mpi old.lists.arrived → DoesGive (joined areas mpi args o) done old new → AreInOrder new.own new.lists
joined_ordered areas mpi args None done old new order h = absurd h
joined_ordered areas mpi args (Some j) done old new order h = gathered_ordered areas mpi args j j.gathered done old new order h

by_received : (areas : Areas) (mpi : MpiData) (status : ℕ) (done : Done) (old new : Kept) → Ordered mpi old.lists.arrived
    → DoesGive (received_reply areas mpi status) done old new → AreInOrder new.own new.lists
unfolding received_reply
by_received areas mpi status done old new order h = received_ordered areas mpi _ status (completion mpi _) done old new order h

by_wait : (areas : Areas) (mpi : MpiData) (variable status : ℕ) (done : Done) (old new : Kept) → Ordered mpi old.lists.arrived
    → DoesGive (wait_reply areas mpi variable status) done old new → AreInOrder new.own new.lists
unfolding wait_reply
by_wait areas mpi variable status done old new order h =
    waited_ordered areas mpi variable (variable_at areas variable) status (came_of mpi (variable_at areas variable)) done old new order
    (given_of (cause_of (variable_faults areas mpi variable)) _ done old new h)

by_test : (areas : Areas) (mpi : MpiData) (variable flag status : ℕ) (done : Done) (old new : Kept) → Ordered mpi old.lists.arrived
    → DoesGive (test_reply areas mpi variable flag status) done old new → AreInOrder new.own new.lists
unfolding test_reply
by_test areas mpi variable flag status done old new order h =
    tested_ordered areas mpi variable (variable_at areas variable) flag status (came_of mpi (variable_at areas variable)) done old new order
    (given_of (cause_of (variable_faults areas mpi variable)) _ done old new h)

by_waitall : (areas : Areas) (mpi : MpiData) (count : ℤ) (requests status : ℕ) (done : Done) (old new : Kept) → Ordered mpi old.lists.arrived
    → DoesGive (waitall_reply areas mpi count requests status) done old new → AreInOrder new.own new.lists
unfolding waitall_reply
by_waitall areas mpi count requests status done old new order h =
    let numbers = numbers_at areas requests (count_of count) in
    all_waited_ordered areas mpi requests status numbers (all_came mpi numbers) done old new order
    (given_of (cause_of (waitall_faults areas mpi count requests numbers)) _ done old new h)

by_collective : (areas : Areas) (mpi : MpiData) (args : CollectiveArgs) (done : Done) (old new : Kept) → Ordered mpi old.lists.arrived
    → DoesGive (gathered_reply areas mpi args) done old new → AreInOrder new.own new.lists
unfolding gathered_reply
by_collective areas mpi args done old new order h = joined_ordered areas mpi args mpi.joined done old new order h

pub stay_in_order : StayInOrder
stay_in_order areas call.Barrier words done old new served order h = by_collective areas (data_in old) (collective_args kind.Barrier words) done old new order h
stay_in_order areas call.Bcast words done old new served order h = by_collective areas (data_in old) (collective_args kind.Bcast words) done old new order h
stay_in_order areas call.Reduce words done old new served order h = by_collective areas (data_in old) (collective_args kind.Reduce words) done old new order h
stay_in_order areas call.Allreduce words done old new served order h = by_collective areas (data_in old) (collective_args kind.Allreduce words) done old new order h
stay_in_order areas call.Scan words done old new served order h = by_collective areas (data_in old) (collective_args kind.Scan words) done old new order h
stay_in_order areas call.Gather words done old new served order h = by_collective areas (data_in old) (collective_args kind.Gather words) done old new order h
stay_in_order areas call.Scatter words done old new served order h = by_collective areas (data_in old) (collective_args kind.Scatter words) done old new order h
stay_in_order areas call.Allgather words done old new served order h = by_collective areas (data_in old) (collective_args kind.Allgather words) done old new order h
stay_in_order areas call.Alltoall words done old new served order h = by_collective areas (data_in old) (collective_args kind.Alltoall words) done old new order h
stay_in_order areas call.CommDup words done old new served order h = by_collective areas (data_in old) (collective_args kind.CommDup words) done old new order h
stay_in_order areas call.CommSplit words done old new served order h = by_collective areas (data_in old) (collective_args kind.CommSplit words) done old new order h
stay_in_order areas call.Migrate words done old new served order h = by_collective areas (data_in old) (collective_args kind.Migrate words) done old new order h
stay_in_order areas call.Init words done old new served order h = absurd cc
stay_in_order areas call.Initialized words done old new served order h = absurd cc
stay_in_order areas call.Finalized words done old new served order h = absurd cc
stay_in_order areas call.Finalize words done old new served order h = absurd cc
stay_in_order areas call.CommRank words done old new served order h = absurd cc
stay_in_order areas call.CommSize words done old new served order h = absurd cc
stay_in_order areas call.CommFree words done old new served order h = absurd cc
stay_in_order areas call.Abort words done old new served order h = absurd cc
stay_in_order areas call.Send words done old new served order h = absurd cc
stay_in_order areas call.Isend words done old new served order h = absurd cc
stay_in_order areas call.Irecv words done old new served order h = absurd cc
stay_in_order areas call.GetCount words done old new served order h = absurd cc
stay_in_order areas call.Recv words done old new served order h = by_received areas (data_in old) (slice_index words 6) done old new order h
stay_in_order areas call.Wait words done old new served order h = by_wait areas (data_in old) (slice_index words 0) (slice_index words 1) done old new order h
stay_in_order areas call.Waitall words done old new served order h =
    by_waitall areas (data_in old) (int_at words 0) (slice_index words 1) (slice_index words 2) done old new order h
stay_in_order areas call.Test words done old new served order h =
    by_test areas (data_in old) (slice_index words 0) (slice_index words 1) (slice_index words 2) done old new order h
