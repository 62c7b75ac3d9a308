-- What holds of a rank's MPI data holds behind the calls that end requests.
use Rattle.std.proofs.Common.{◌≡◌, ℕ, ◌+◌, ◌-◌, ◌<◌, ◌≤◌, ◌==◌, Bool, true, false, cond, List, [], ◌∷◌, refl, ap, sym, subst, arith, ◌∙◌, Option, Some, None}
use Rattle.std.specs.Prelude.{All, ℤ, slice_index, length}
use Rattle.std.proofs.lemmas.List.Elements.{All-weaker}
use Rattle.am_base.specs.declared.calls.MpiCall.TheVariants as call
use Rattle.rank_range.specs.Areas.{Areas}
use Rattle.mpi_types.specs.declared.call.Write.{Write}
use Rattle.mpi_types.specs.declared.group.Communicator.{Communicator}
use Rattle.mpi_types.specs.declared.state.OwnData.{OwnData}
use Rattle.mpi_rules.specs.declared.faults.LateFaults.{LateFaults}
use Rattle.mpi_rules.specs.Data.{MpiData, place_among, without}
use Rattle.mpi_rules.specs.Faults.{cause_of, late_cause_of}
use Rattle.mpi_rules.specs.Places.{int_at, count_of, variable_at}
use Rattle.mpi_rules.specs.Reply.{Gives, ended, writing}
use Rattle.mpi_rules.specs.Requests.{Came, all_came, all_ending, came_of, completion, ending, numbers_at, received, received_reply, test_reply, tested, variable_faults, wait_reply, waitall_faults, waitall_reply, waited, waited_all}
use Rattle.mpi_call.specs.declared.done.Done.{Done}
use Rattle.mpi_call.specs.Answers.{Kept, data_in, DoesGive}
use Rattle.mpi_call.specs.InOrder.{AreInOrder}
use Rattle.mpi_call.specs.Steady.{HasMember, IsSteady, EndsSteady}
use Rattle.mpi_call.proofs.OrderLemmas.{given_of, stay_in_order}

-- the same next number and communicators
record IsBeside (a b : OwnData) : Type 0 where
  next : a.next ≡ b.next
  communicators : a.communicators ≡ b.communicators

beside_none : (own : OwnData) → IsBeside own own
beside_none own = record { next = refl; communicators = refl }

beside_without : (n : ℕ) (mpi : MpiData) → IsBeside (without n mpi).own mpi.own
unfolding without
beside_without n mpi = record { next = refl; communicators = refl }

beside_ending : (n : ℕ) (mpi : MpiData) → IsBeside (ending n mpi).own mpi.own
beside_ending n mpi =
    elim (n == 0) as (λ b. IsBeside (cond b mpi (without n mpi)).own mpi.own) [ true ↦ beside_none mpi.own | false ↦ beside_without n mpi ]

beside_all : (numbers : List ℕ) (mpi : MpiData) → IsBeside (all_ending numbers mpi).own mpi.own
beside_all [] mpi = beside_none mpi.own
beside_all (n ∷ numbers) mpi =
    let first = beside_ending n mpi in
    let more = beside_all numbers (ending n mpi) in
    record { next = more.next ∙ first.next; communicators = more.communicators ∙ first.communicators }

member_beside : (rank ticks : ℕ) (a b : OwnData) → a.communicators ≡ b.communicators → HasMember rank ticks b → HasMember rank (ticks + 1) a
member_beside rank ticks a b is h =
    let later : All (λ c. c.position ≤ ticks + 1) b.communicators =
    All-weaker (λ c. c.position ≤ ticks) (λ c. c.position ≤ ticks + 1) (λ c le. omega arith) b.communicators h.positions in
    record {
      sized = record { members = subst (λ (cs : List Communicator). All (λ c. length c.group.members ≤ 256) cs) (sym is) h.sized.members };
      member = subst (λ (cs : List Communicator). All (λ c. place_among rank c.group.members < length c.group.members) cs) (sym is) h.member;
      positions = subst (λ (cs : List Communicator). All (λ c. c.position ≤ ticks + 1) cs) (sym is) later;
    }

beside_steady : (rank ticks : ℕ) (old new : Kept) → IsBeside new.own old.own → AreInOrder new.own new.lists → IsSteady rank ticks old
    → IsSteady rank (ticks + 1) new
beside_steady rank ticks old new beside order s =
    let next = beside.next in
    let some = s.some in
    let few = s.few in
    record {
      order = order;
      some = omega (arith, next, some);
      few = omega (arith, next, few);
      communicators = member_beside rank ticks new.own old.own beside.communicators s.communicators;
    }

ended_beside : (f : LateFaults) (after : MpiData) (writes : List Write) (done : Done) (old new : Kept) → IsBeside after.own old.own
    → DoesGive (ended f (writing after writes)) done old new → IsBeside new.own old.own
ended_beside f after writes done old new beside h =
    subst (λ (own : OwnData). IsBeside own old.own) (sym (given_of (late_cause_of f) (Gives (writing after writes)) done old new h).own_is) beside

received_beside : (areas : Areas) (n status : ℕ) (o : Option Came) (done : Done) (old new : Kept)
    → DoesGive (received areas (data_in old) n status o) done old new → IsBeside new.own old.own
received_beside areas n status None done old new h = absurd h
received_beside areas n status (Some c) done old new h = ended_beside _ _ _ done old new (beside_without n (data_in old)) h

waited_beside : (areas : Areas) (variable n status : ℕ) (o : Option Came) (done : Done) (old new : Kept)
    → DoesGive (waited areas (data_in old) variable n status o) done old new → IsBeside new.own old.own
waited_beside areas variable n status None done old new h = absurd h
waited_beside areas variable n status (Some c) done old new h = ended_beside _ _ _ done old new (beside_ending n (data_in old)) h

tested_beside : (areas : Areas) (variable n flag status : ℕ) (o : Option Came) (done : Done) (old new : Kept)
    → DoesGive (tested areas (data_in old) variable n flag status o) done old new → IsBeside new.own old.own
tested_beside areas variable n flag status None done old new h = ended_beside _ (data_in old) _ done old new (beside_none old.own) h
tested_beside areas variable n flag status (Some c) done old new h = ended_beside _ _ _ done old new (beside_ending n (data_in old)) h

all_beside : (areas : Areas) (requests status : ℕ) (numbers : List ℕ) (o : Option (List Came)) (done : Done) (old new : Kept)
    → DoesGive (waited_all areas (data_in old) requests status numbers o) done old new → IsBeside new.own old.own
all_beside areas requests status numbers None done old new h = absurd h
all_beside areas requests status numbers (Some all) done old new h = ended_beside _ _ _ done old new (beside_all numbers (data_in old)) h

by_received : (areas : Areas) (status : ℕ) (done : Done) (old new : Kept) → DoesGive (received_reply areas (data_in old) status) done old new
    → IsBeside new.own old.own
unfolding received_reply
by_received areas status done old new h = received_beside areas (old.own.next - 1) status (completion (data_in old) (old.own.next - 1)) done old new h

by_wait : (areas : Areas) (variable status : ℕ) (done : Done) (old new : Kept) → DoesGive (wait_reply areas (data_in old) variable status) done old new
    → IsBeside new.own old.own
unfolding wait_reply
by_wait areas variable status done old new h =
    waited_beside areas variable (variable_at areas variable) status (came_of (data_in old) (variable_at areas variable)) done old new
    (given_of (cause_of (variable_faults areas (data_in old) variable)) _ done old new h)

by_test : (areas : Areas) (variable flag status : ℕ) (done : Done) (old new : Kept)
    → DoesGive (test_reply areas (data_in old) variable flag status) done old new → IsBeside new.own old.own
unfolding test_reply
by_test areas variable flag status done old new h =
    tested_beside areas variable (variable_at areas variable) flag status (came_of (data_in old) (variable_at areas variable)) done old new
    (given_of (cause_of (variable_faults areas (data_in old) variable)) _ done old new h)

by_waitall : (areas : Areas) (count : ℤ) (requests status : ℕ) (done : Done) (old new : Kept)
    → DoesGive (waitall_reply areas (data_in old) count requests status) done old new → IsBeside new.own old.own
unfolding waitall_reply
by_waitall areas count requests status done old new h =
    let numbers = numbers_at areas requests (count_of count) in
    all_beside areas requests status numbers (all_came (data_in old) numbers) done old new
    (given_of (cause_of (waitall_faults areas (data_in old) count requests numbers)) _ done old new h)

pub ends_steady : EndsSteady
ends_steady areas call.Recv words done ticks old new served apart s h =
    beside_steady areas.rank ticks old new (by_received areas (slice_index words 6) done old new h)
    (stay_in_order areas call.Recv words done old new refl s.order h) s
ends_steady areas call.Wait words done ticks old new served apart s h =
    beside_steady areas.rank ticks old new (by_wait areas (slice_index words 0) (slice_index words 1) done old new h)
    (stay_in_order areas call.Wait words done old new refl s.order h) s
ends_steady areas call.Waitall words done ticks old new served apart s h =
    beside_steady areas.rank ticks old new (by_waitall areas (int_at words 0) (slice_index words 1) (slice_index words 2) done old new h)
    (stay_in_order areas call.Waitall words done old new refl s.order h) s
ends_steady areas call.Test words done ticks old new served apart s h =
    beside_steady areas.rank ticks old new (by_test areas (slice_index words 0) (slice_index words 1) (slice_index words 2) done old new h)
    (stay_in_order areas call.Test words done old new refl s.order h) s
ends_steady areas call.Barrier words done ticks old new served apart s h = absurd cc
ends_steady areas call.Bcast words done ticks old new served apart s h = absurd cc
ends_steady areas call.Reduce words done ticks old new served apart s h = absurd cc
ends_steady areas call.Allreduce words done ticks old new served apart s h = absurd cc
ends_steady areas call.Scan words done ticks old new served apart s h = absurd cc
ends_steady areas call.Gather words done ticks old new served apart s h = absurd cc
ends_steady areas call.Scatter words done ticks old new served apart s h = absurd cc
ends_steady areas call.Allgather words done ticks old new served apart s h = absurd cc
ends_steady areas call.Alltoall words done ticks old new served apart s h = absurd cc
ends_steady areas call.CommDup words done ticks old new served apart s h = absurd cc
ends_steady areas call.CommSplit words done ticks old new served apart s h = absurd cc
ends_steady areas call.Migrate words done ticks old new served apart s h = absurd cc
ends_steady areas call.Init words done ticks old new served apart s h = absurd cc
ends_steady areas call.Initialized words done ticks old new served apart s h = absurd cc
ends_steady areas call.Finalized words done ticks old new served apart s h = absurd cc
ends_steady areas call.Finalize words done ticks old new served apart s h = absurd cc
ends_steady areas call.CommRank words done ticks old new served apart s h = absurd cc
ends_steady areas call.CommSize words done ticks old new served apart s h = absurd cc
ends_steady areas call.CommFree words done ticks old new served apart s h = absurd cc
ends_steady areas call.Abort words done ticks old new served apart s h = absurd cc
ends_steady areas call.Send words done ticks old new served apart s h = absurd cc
ends_steady areas call.Isend words done ticks old new served apart s h = absurd cc
ends_steady areas call.Irecv words done ticks old new served apart s h = absurd cc
ends_steady areas call.GetCount words done ticks old new served apart s h = absurd cc
