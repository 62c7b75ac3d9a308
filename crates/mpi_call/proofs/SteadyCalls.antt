-- What holds of a rank's MPI data holds behind each call.
use Rattle.std.proofs.Common.{◌≡◌, ℕ, ◌+◌, ◌<◌, ◌≤◌, ◌==◌, not, Bool, true, false, cond, List, [], ◌∷◌, refl, ap, sym, subst, arith, Option, Some, None}
use Rattle.std.specs.Prelude.{All, ℤ, pos, slice_index, length, is_some}
use Rattle.std.specs.Ordering.{int_eq}
use Rattle.std.proofs.lemmas.List.Elements.{All-cons, All-filter, All-head, All-nil, All-tail, All-weaker}
use Rattle.am_base.specs.declared.calls.MpiCall.TheVariants as call
use Rattle.am_base.specs.declared.traps.TrapCause.{TrapCause}
use Rattle.rank_range.specs.Areas.{Areas}
use Rattle.mpi_types.specs.declared.call.Write.{Write}
use Rattle.mpi_types.specs.declared.collective.Collective.TheVariants as kind
use Rattle.mpi_types.specs.declared.constants.TheConstants.{PROC_NULL}
use Rattle.mpi_types.specs.declared.group.Communicator.{Communicator}
use Rattle.mpi_types.specs.declared.lists.BookLists.{BookLists}
use Rattle.mpi_types.specs.declared.message.Message.{Message}
use Rattle.mpi_types.specs.declared.state.CompleteKind.{CompleteKind}
use Rattle.mpi_types.specs.declared.state.CompleteKind.TheVariants.{Send, NoProcess}
use Rattle.mpi_types.specs.declared.state.OwnData.{OwnData}
use Rattle.mpi_types.specs.declared.state.Phase.{Phase}
use Rattle.mpi_types.specs.declared.state.Phase.TheVariants.{Running, After}
use Rattle.mpi_rules.specs.declared.arguments.CollectiveArgs.{CollectiveArgs}
use Rattle.mpi_rules.specs.declared.arguments.MessageArgs.{MessageArgs}
use Rattle.mpi_rules.specs.declared.faults.Faults.{Faults}
use Rattle.mpi_rules.specs.declared.faults.LateFaults.{LateFaults}
use Rattle.mpi_rules.specs.Collectives.{collective_args, join_reply, own_joined}
use Rattle.mpi_types.specs.Book.{IsNext}
use Rattle.mpi_rules.specs.Data.{MpiData, complete_of, place_among, without, with_next_position, without_communicator}
use Rattle.mpi_rules.specs.Faults.{cause_of, late_cause_of}
use Rattle.mpi_rules.specs.Messages.{message_args, send_reply, isend_reply, receive_reply, ireceive_reply, receiving, own_with_complete, own_with_next, post_of}
use Rattle.mpi_rules.specs.Own.{init_reply, initialized_reply, finalized_reply, finalize_reply, rank_reply, size_reply, free_reply, abort_reply, own_without_communicator, with_phase}
use Rattle.mpi_rules.specs.Places.{int_at, int_of, count_of, variable_at}
use Rattle.mpi_rules.specs.Reply.{Given, Reply, Gives, Ends, checked, answered, ended, quiet, with_own, writing}
use Rattle.mpi_rules.specs.Requests.{Came, all_came, all_ending, came_of, completion, count_reply, ending, numbers_at, received, received_reply, test_reply, tested, variable_faults, wait_reply, waitall_faults, waitall_reply, waited, waited_all}
use Rattle.mpi_call.specs.declared.done.Done.{Done}
use Rattle.mpi_call.specs.Answers.{Kept, kept, data_in, BookGoes, DoesGive, IsGiven}
use Rattle.mpi_call.specs.InOrder.{AreInOrder}
use Rattle.mpi_call.specs.Lawful.{AreSized}
use Rattle.mpi_call.specs.Steady.{HasMember, IsSteady, BeginsSteady, EndsSteady}
use Rattle.mpi_call.proofs.ArrayLemmas.{lists_with}
use Rattle.mpi_call.proofs.OrderLemmas.{given_of, stay_in_order}
use Rattle.mpi_call.proofs.SteadyLemmas.{complete_ordered, posted_ordered}

-- one tick more
member_later : (rank ticks : ℕ) (own : OwnData) → HasMember rank ticks own → HasMember rank (ticks + 1) own
member_later rank ticks own h = record {
  sized = h.sized;
  member = h.member;
  positions = All-weaker (λ c. c.position ≤ ticks) (λ c. c.position ≤ ticks + 1) (λ c le. omega arith) own.communicators h.positions;
}

-- What holds of the data behind a call, whatever has arrived: of a rank's own data and of its requests.
record Holds (rank ticks : ℕ) (own : OwnData) (lists : BookLists) : Type 0 where
  order : AreInOrder own lists
  some : 1 ≤ own.next
  few : own.next ≤ ticks + 1
  communicators : HasMember rank ticks own

to_steady : (rank ticks : ℕ) (k : Kept) → Holds rank ticks k.own k.lists → IsSteady rank ticks k
to_steady rank ticks k h = record { order = h.order; some = h.some; few = h.few; communicators = h.communicators }

holds_at : (rank ticks : ℕ) (own : OwnData) (lists : BookLists) (new : Kept) → new.own ≡ own → new.lists ≡ lists → Holds rank ticks own lists
    → IsSteady rank ticks new
holds_at rank ticks own lists new own_is lists_are h =
    to_steady rank ticks new
    (subst (λ (o : OwnData). Holds rank ticks o new.lists) (sym own_is)
    (subst (λ (l : BookLists). Holds rank ticks own l) (sym lists_are) h))

-- a call that posts nothing
unposted : (rank ticks : ℕ) (g : Given) (done : Done) (old new : Kept) → g.post ≡ None
    → Holds rank ticks g.after.own (lists_with g.after old.lists.arrived) → IsGiven g done old new → IsSteady rank ticks new
unposted rank ticks g done old new none h given =
    holds_at rank ticks g.after.own (lists_with g.after old.lists.arrived) new given.own_is
    (subst (λ p. BookGoes p g.after old.lists done.hit new.lists) none given.book).1 h

through : (f : Faults) (g : Given) (done : Done) (old new : Kept) → DoesGive (checked f (Gives g)) done old new → IsGiven g done old new
through f g done old new h = given_of (cause_of f) (Gives g) done old new h

open_through : (f : LateFaults) (g : Given) (done : Done) (old new : Kept) → DoesGive (ended f g) done old new → IsGiven g done old new
open_through f g done old new h = given_of (late_cause_of f) (Gives g) done old new h

-- ---- the data behind a call

-- the same data
same_holds : (rank ticks : ℕ) (k : Kept) → IsSteady rank ticks k → Holds rank (ticks + 1) k.own (lists_with (data_in k) k.lists.arrived)
same_holds rank ticks k s = record {
  order = record {
    apart = record { orderly = record { posted_ascend = s.order.apart.orderly.posted_ascend; matched_ascend = s.order.apart.orderly.matched_ascend; apart = s.order.apart.orderly.apart }; apart = s.order.apart.apart };
    next = record { above_posted = s.order.next.above_posted; above_matched = s.order.next.above_matched };
    below = s.order.below;
  };
  some = s.some;
  few = (let few = s.few in omega (arith, few));
  communicators = member_later rank ticks k.own s.communicators;
}

-- other own data with the same requests
other_holds : (rank ticks : ℕ) (k : Kept) (own : OwnData) → own.next ≡ k.own.next → own.complete ≡ k.own.complete → HasMember rank (ticks + 1) own
    → IsSteady rank ticks k → Holds rank (ticks + 1) own (lists_with (data_in k) k.lists.arrived)
other_holds rank ticks k own next complete member s =
    let same = same_holds rank ticks k s in
    record {
      order = record {
        apart = record {
          orderly = same.order.apart.orderly;
          apart = λ n some live. same.order.apart.apart n (subst (λ requests. is_some (complete_of n requests) ≡ true) complete some) live;
        };
        next = subst (λ n. IsNext (lists_with (data_in k) k.lists.arrived) n) (sym next) same.order.next;
        below =
            subst (λ requests. All (λ r. r.number < own.next) requests) (sym complete)
            (subst (λ n. All (λ r. r.number < n) k.own.complete) (sym next) same.order.below);
      };
      some = subst (λ n. 1 ≤ n) (sym next) same.some;
      few = subst (λ n. n ≤ (ticks + 1) + 1) (sym next) same.few;
      communicators = member;
    }

-- one more complete request
more_holds : (rank ticks : ℕ) (k : Kept) (kind : CompleteKind) → IsSteady rank ticks k
    → Holds rank (ticks + 1) (own_with_complete kind k.own) (lists_with (data_in k) k.lists.arrived)
more_holds rank ticks k kind s =
    let same = same_holds rank ticks k s in
    record {
      order = complete_ordered k.own (lists_with (data_in k) k.lists.arrived) kind same.order;
      some = omega arith;
      few = (let few = s.few in omega (arith, few));
      communicators = record { sized = record { members = same.communicators.sized.members }; member = same.communicators.member; positions = same.communicators.positions };
    }

-- one more receive
posted_steady : (rank ticks : ℕ) (args : MessageArgs) (writes : List Write) (answer : Option ℤ) (done : Done) (old new : Kept) → IsSteady rank ticks old
    → IsGiven (record (quiet (with_own (own_with_next old.own) (data_in old))) { answer = answer; post = Some (post_of (data_in old) args); writes = writes }) done old new
    → IsSteady rank (ticks + 1) new
posted_steady rank ticks args writes answer done old new s given =
    holds_at rank (ticks + 1) (own_with_next old.own) new.lists new given.own_is refl (record {
      order = posted_ordered old.own old.lists (post_of (data_in old) args) done.hit new.lists refl given.book s.order;
      some = omega arith;
      few = (let few = s.few in omega (arith, few));
      communicators = (let later = member_later rank ticks old.own s.communicators in
          record { sized = record { members = later.sized.members }; member = later.member; positions = later.positions });
    })

abbrev receiving_by : MpiData → MessageArgs → Bool → Given
receiving_by mpi args none =
    cond none (quiet (with_own (own_with_complete NoProcess mpi.own) mpi))
    (record (quiet (with_own (own_with_next mpi.own) mpi)) { post = Some (post_of mpi args) })

receiving_steady : (rank ticks : ℕ) (args : MessageArgs) (writes : List Write) (answer : Option ℤ) (none : Bool) (done : Done) (old new : Kept)
    → IsSteady rank ticks old → IsGiven (record (receiving_by (data_in old) args none) { answer = answer; writes = writes }) done old new
    → IsSteady rank (ticks + 1) new
receiving_steady rank ticks args writes answer true done old new s given =
    unposted rank (ticks + 1) _ done old new refl (more_holds rank ticks old NoProcess s) given
receiving_steady rank ticks args writes answer false done old new s given = posted_steady rank ticks args writes answer done old new s given

-- a communicator fewer, and one whose next collective has the next position
member_without : (rank ticks : ℕ) (own : OwnData) (comm : ℤ) → HasMember rank ticks own → HasMember rank ticks (own_without_communicator comm own)
member_without rank ticks own comm h = record {
  sized = record { members = All-filter (λ c. not (int_eq (pos c.number) comm)) (λ c. length c.group.members ≤ 256) own.communicators h.sized.members };
  member = All-filter (λ c. not (int_eq (pos c.number) comm)) (λ c. place_among rank c.group.members < length c.group.members) own.communicators h.member;
  positions = All-filter (λ c. not (int_eq (pos c.number) comm)) (λ c. c.position ≤ ticks) own.communicators h.positions;
}

abbrev moved : Communicator → Communicator
moved c = record { number = c.number; group = c.group; position = c.position + 1 }

-- what holds of each communicator, and of it with the next position, holds of all where one has it
all_moved : (P Q : Communicator → Type 0) (comm : ℤ) (cs : List Communicator) → ((c : Communicator) → P c → Q c)
    → ((c : Communicator) → P c → Q (moved c)) → All P cs → All Q (with_next_position comm cs)
all_moved P Q comm [] stay move all = All-nil Q
all_moved P Q comm (c ∷ cs) stay move all = All-cons Q _ (with_next_position comm cs) (one (int_eq (pos c.number) comm)) (all_moved P Q comm cs stay move (All-tail P c cs all))
  where
    here : P c
    here = All-head P c cs all

    one : (b : Bool) → Q (cond b (moved c) c)
    one true = move c here
    one false = stay c here

member_joined : (rank ticks : ℕ) (own : OwnData) (comm : ℤ) → HasMember rank ticks own → HasMember rank (ticks + 1) (own_joined comm own)
member_joined rank ticks own comm h = record {
  sized = record { members = all_moved (λ c. length c.group.members ≤ 256) (λ c. length c.group.members ≤ 256) comm own.communicators (λ c p. p) (λ c p. p) h.sized.members };
  member = all_moved (λ c. place_among rank c.group.members < length c.group.members) (λ c. place_among rank c.group.members < length c.group.members) comm own.communicators
      (λ c p. p) (λ c p. p) h.member;
  positions = all_moved (λ c. c.position ≤ ticks) (λ c. c.position ≤ ticks + 1) comm own.communicators (λ c p. omega arith) (λ c p. omega arith) h.positions;
}

-- another phase
phase_member : (rank ticks : ℕ) (own : OwnData) (phase : Phase) → HasMember rank ticks own → HasMember rank ticks (record own { phase = phase })
phase_member rank ticks own phase h = record { sized = record { members = h.sized.members }; member = h.member; positions = h.positions }

-- ---- the calls that begin

by_init : (rank ticks : ℕ) (done : Done) (old new : Kept) → IsSteady rank ticks old → DoesGive (init_reply (data_in old)) done old new
    → IsSteady rank (ticks + 1) new
unfolding init_reply
by_init rank ticks done old new s h =
    unposted rank (ticks + 1) _ done old new refl
    (other_holds rank ticks old _ refl refl (phase_member rank (ticks + 1) old.own Running (member_later rank ticks old.own s.communicators)) s)
    (through _ _ done old new h)

by_finalize : (rank ticks : ℕ) (done : Done) (old new : Kept) → IsSteady rank ticks old → DoesGive (finalize_reply (data_in old)) done old new
    → IsSteady rank (ticks + 1) new
unfolding finalize_reply
by_finalize rank ticks done old new s h =
    unposted rank (ticks + 1) _ done old new refl
    (other_holds rank ticks old _ refl refl (phase_member rank (ticks + 1) old.own After (member_later rank ticks old.own s.communicators)) s)
    (through _ _ done old new h)

by_initialized : (areas : Areas) (a ticks : ℕ) (done : Done) (old new : Kept) → IsSteady areas.rank ticks old
    → DoesGive (initialized_reply areas (data_in old) a) done old new → IsSteady areas.rank (ticks + 1) new
unfolding initialized_reply
by_initialized areas a ticks done old new s h =
    unposted areas.rank (ticks + 1) _ done old new refl (same_holds areas.rank ticks old s) (open_through _ _ done old new h)

by_finalized : (areas : Areas) (a ticks : ℕ) (done : Done) (old new : Kept) → IsSteady areas.rank ticks old
    → DoesGive (finalized_reply areas (data_in old) a) done old new → IsSteady areas.rank (ticks + 1) new
unfolding finalized_reply
by_finalized areas a ticks done old new s h =
    unposted areas.rank (ticks + 1) _ done old new refl (same_holds areas.rank ticks old s) (open_through _ _ done old new h)

-- checked, and answered behind all checks
both : (f : Faults) (late : LateFaults) (g : Given) (done : Done) (old new : Kept) → DoesGive (checked f (ended late g)) done old new
    → IsGiven g done old new
both f late g done old new h = open_through late g done old new (given_of (cause_of f) (ended late g) done old new h)

by_rank : (areas : Areas) (comm : ℤ) (a ticks : ℕ) (done : Done) (old new : Kept) → IsSteady areas.rank ticks old
    → DoesGive (rank_reply areas (data_in old) comm a) done old new → IsSteady areas.rank (ticks + 1) new
unfolding rank_reply
by_rank areas comm a ticks done old new s h =
    unposted areas.rank (ticks + 1) _ done old new refl (same_holds areas.rank ticks old s) (both _ _ _ done old new h)

by_size : (areas : Areas) (comm : ℤ) (a ticks : ℕ) (done : Done) (old new : Kept) → IsSteady areas.rank ticks old
    → DoesGive (size_reply areas (data_in old) comm a) done old new → IsSteady areas.rank (ticks + 1) new
unfolding size_reply
by_size areas comm a ticks done old new s h =
    unposted areas.rank (ticks + 1) _ done old new refl (same_holds areas.rank ticks old s) (both _ _ _ done old new h)

by_count : (areas : Areas) (status : ℕ) (datatype : ℤ) (a ticks : ℕ) (done : Done) (old new : Kept) → IsSteady areas.rank ticks old
    → DoesGive (count_reply areas (data_in old) status datatype a) done old new → IsSteady areas.rank (ticks + 1) new
unfolding count_reply
by_count areas status datatype a ticks done old new s h =
    unposted areas.rank (ticks + 1) _ done old new refl (same_holds areas.rank ticks old s) (both _ _ _ done old new h)

by_free : (areas : Areas) (variable ticks : ℕ) (done : Done) (old new : Kept) → IsSteady areas.rank ticks old
    → DoesGive (free_reply areas (data_in old) variable) done old new → IsSteady areas.rank (ticks + 1) new
unfolding free_reply
by_free areas variable ticks done old new s h =
    unposted areas.rank (ticks + 1) _ done old new refl
    (other_holds areas.rank ticks old _ refl refl
    (member_without areas.rank (ticks + 1) old.own (int_of (variable_at areas variable)) (member_later areas.rank ticks old.own s.communicators)) s)
    (both _ _ _ done old new h)

by_abort : (areas : Areas) (comm status : ℤ) (ticks : ℕ) (done : Done) (old new : Kept)
    → DoesGive (abort_reply areas (data_in old) comm status) done old new → IsSteady areas.rank (ticks + 1) new
unfolding abort_reply
by_abort areas comm status ticks done old new h = absurd (given_of (cause_of _) (Ends status) done old new h)

by_send : (areas : Areas) (args : MessageArgs) (ticks : ℕ) (done : Done) (old new : Kept) → IsSteady areas.rank ticks old
    → DoesGive (send_reply areas (data_in old) args) done old new → IsSteady areas.rank (ticks + 1) new
unfolding send_reply
by_send areas args ticks done old new s h =
    unposted areas.rank (ticks + 1) _ done old new refl (same_holds areas.rank ticks old s) (through _ _ done old new h)

by_isend : (areas : Areas) (args : MessageArgs) (variable ticks : ℕ) (done : Done) (old new : Kept) → IsSteady areas.rank ticks old
    → DoesGive (isend_reply areas (data_in old) args variable) done old new → IsSteady areas.rank (ticks + 1) new
unfolding isend_reply
by_isend areas args variable ticks done old new s h =
    unposted areas.rank (ticks + 1) _ done old new refl (more_holds areas.rank ticks old Send s) (both _ _ _ done old new h)

by_receive : (areas : Areas) (args : MessageArgs) (ticks : ℕ) (done : Done) (old new : Kept) → IsSteady areas.rank ticks old
    → DoesGive (receive_reply areas (data_in old) args) done old new → IsSteady areas.rank (ticks + 1) new
unfolding receive_reply
by_receive areas args ticks done old new s h =
    receiving_steady areas.rank ticks args [] None (int_eq args.peer PROC_NULL) done old new s (unwritten (int_eq args.peer PROC_NULL) (through _ _ done old new h))
  where
    unwritten : (none : Bool) → IsGiven (record (receiving_by (data_in old) args none) { answer = None }) done old new
        → IsGiven (record (receiving_by (data_in old) args none) { answer = None; writes = [] }) done old new
    unwritten true g = g
    unwritten false g = g

by_ireceive : (areas : Areas) (args : MessageArgs) (variable ticks : ℕ) (done : Done) (old new : Kept) → IsSteady areas.rank ticks old
    → DoesGive (ireceive_reply areas (data_in old) args variable) done old new → IsSteady areas.rank (ticks + 1) new
unfolding ireceive_reply
by_ireceive areas args variable ticks done old new s h =
    receiving_steady areas.rank ticks args _ (Some (pos 0)) (int_eq args.peer PROC_NULL) done old new s (answered_so (int_eq args.peer PROC_NULL) (both _ _ _ done old new h))
  where
    answered_so : {writes : List Write} (none : Bool) → IsGiven (record (receiving_by (data_in old) args none) { writes = writes }) done old new
        → IsGiven (record (receiving_by (data_in old) args none) { answer = Some (pos 0); writes = writes }) done old new
    answered_so true g = g
    answered_so false g = g

by_join : (areas : Areas) (args : CollectiveArgs) (ticks : ℕ) (done : Done) (old new : Kept) → IsSteady areas.rank ticks old
    → DoesGive (join_reply areas (data_in old) args) done old new → IsSteady areas.rank (ticks + 1) new
unfolding join_reply
by_join areas args ticks done old new s h =
    unposted areas.rank (ticks + 1) _ done old new refl
    (other_holds areas.rank ticks old _ refl refl (member_joined areas.rank ticks old.own args.comm s.communicators) s)
    (through _ _ done old new h)

pub begins_steady : BeginsSteady
begins_steady areas call.Barrier words done ticks old new served s h = by_join areas (collective_args kind.Barrier words) ticks done old new s h
begins_steady areas call.Bcast words done ticks old new served s h = by_join areas (collective_args kind.Bcast words) ticks done old new s h
begins_steady areas call.Reduce words done ticks old new served s h = by_join areas (collective_args kind.Reduce words) ticks done old new s h
begins_steady areas call.Allreduce words done ticks old new served s h = by_join areas (collective_args kind.Allreduce words) ticks done old new s h
begins_steady areas call.Scan words done ticks old new served s h = by_join areas (collective_args kind.Scan words) ticks done old new s h
begins_steady areas call.Gather words done ticks old new served s h = by_join areas (collective_args kind.Gather words) ticks done old new s h
begins_steady areas call.Scatter words done ticks old new served s h = by_join areas (collective_args kind.Scatter words) ticks done old new s h
begins_steady areas call.Allgather words done ticks old new served s h = by_join areas (collective_args kind.Allgather words) ticks done old new s h
begins_steady areas call.Alltoall words done ticks old new served s h = by_join areas (collective_args kind.Alltoall words) ticks done old new s h
begins_steady areas call.CommDup words done ticks old new served s h = by_join areas (collective_args kind.CommDup words) ticks done old new s h
begins_steady areas call.CommSplit words done ticks old new served s h = by_join areas (collective_args kind.CommSplit words) ticks done old new s h
begins_steady areas call.Migrate words done ticks old new served s h = by_join areas (collective_args kind.Migrate words) ticks done old new s h
begins_steady areas call.Init words done ticks old new served s h = by_init areas.rank ticks done old new s h
begins_steady areas call.Finalize words done ticks old new served s h = by_finalize areas.rank ticks done old new s h
begins_steady areas call.Initialized words done ticks old new served s h = by_initialized areas (slice_index words 0) ticks done old new s h
begins_steady areas call.Finalized words done ticks old new served s h = by_finalized areas (slice_index words 0) ticks done old new s h
begins_steady areas call.CommRank words done ticks old new served s h = by_rank areas (int_at words 0) (slice_index words 1) ticks done old new s h
begins_steady areas call.CommSize words done ticks old new served s h = by_size areas (int_at words 0) (slice_index words 1) ticks done old new s h
begins_steady areas call.CommFree words done ticks old new served s h = by_free areas (slice_index words 0) ticks done old new s h
begins_steady areas call.Abort words done ticks old new served s h = by_abort areas (int_at words 0) (int_at words 1) ticks done old new h
begins_steady areas call.Send words done ticks old new served s h = by_send areas (message_args words) ticks done old new s h
begins_steady areas call.Isend words done ticks old new served s h = by_isend areas (message_args words) (slice_index words 6) ticks done old new s h
begins_steady areas call.Recv words done ticks old new served s h = by_receive areas (message_args words) ticks done old new s h
begins_steady areas call.Irecv words done ticks old new served s h = by_ireceive areas (message_args words) (slice_index words 6) ticks done old new s h
begins_steady areas call.GetCount words done ticks old new served s h = by_count areas (slice_index words 0) (int_at words 1) (slice_index words 2) ticks done old new s h
begins_steady areas call.Wait words done ticks old new served s h = absurd cc
begins_steady areas call.Waitall words done ticks old new served s h = absurd cc
begins_steady areas call.Test words done ticks old new served s h = absurd cc
