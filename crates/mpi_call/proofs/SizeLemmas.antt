-- How many members the communicator of a number has.
use Rattle.std.proofs.Common.{◌≡◌, ℕ, ◌+◌, ◌==◌, ◌≤◌, Bool, true, false, cond, List, [], ◌∷◌, length, arith, refl, subst, suc, Option, Some, None}
use Rattle.std.specs.Prelude.{ℤ, All, find}
use Rattle.am_base.specs.declared.numbers.RankId.{RankId}
use Rattle.mpi_types.specs.declared.group.Communicator.{Communicator}
use Rattle.mpi_types.specs.declared.state.OwnData.{OwnData}
use Rattle.mpi_rules.specs.Data.{communicator_in, place_among, facts_in, comm_facts}
use Rattle.mpi_call.specs.Lawful.{AreSized, most_ranks}

pub all_front : {X : Type 0} (P : X → Type 0) (x : X) (xs : List X) → All P (x ∷ xs) → P x
all_front P x xs h = h 0 x (omega arith)

pub all_rest : {X : Type 0} (P : X → Type 0) (x : X) (xs : List X) → All P (x ∷ xs) → All P xs
all_rest P x xs h = λ k d below. h (suc k) d (omega arith)

some_same : {X : Type 0} (x y : X) → Some x ≡ Some y → x ≡ y
some_same x y is = cc

-- what holds of each holds of the one that is found
pub found_has : {X : Type 0} (P : X → Type 0) (test : X → Bool) (xs : List X) (y : X) → All P xs → find test xs ≡ Some y → P y
found_has P test [] y h = λ is. absurd cc
found_has {X} P test (x ∷ xs) y h =
    elim (test x) as (λ b. cond b (Some x) (find test xs) ≡ Some y → P y)
    [ true ↦ λ is. subst P (some_same x y is) (all_front P x xs h) | false ↦ λ is. found_has P test xs y (all_rest P x xs h) is ]

pub place_small : (rank : ℕ) (members : List RankId) → place_among rank members ≤ length members
place_small rank [] = omega arith
place_small rank (r ∷ members) =
    elim (r.0 == rank) as (λ b. cond b 0 (place_among rank members + 1) ≤ length (r ∷ members))
    [ true ↦ omega arith | false ↦ omega (arith, place_small rank members) ]

facts_small : (rank : ℕ) (o : Option Communicator) → ((c : Communicator) → o ≡ Some c → length c.group.members ≤ most_ranks)
    → ((facts_in rank o).members ≤ most_ranks) × ((facts_in rank o).member ≤ most_ranks)
facts_small rank None h = (omega arith, omega arith)
facts_small rank (Some c) h = (h c refl, omega (arith, h c refl, place_small rank c.group.members))

pub facts_sized : (rank : ℕ) (own : OwnData) (n : ℤ) → AreSized own
    → ((comm_facts rank own n).members ≤ most_ranks) × ((comm_facts rank own n).member ≤ most_ranks)
unfolding comm_facts
facts_sized rank own n sized =
    facts_small rank (communicator_in own.communicators n)
    (λ c is. found_has (λ (x : Communicator). length x.group.members ≤ most_ranks) _ own.communicators c sized.members is)
