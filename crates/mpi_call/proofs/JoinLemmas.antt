-- A rank that may join a collective is a member of the communicator.
use Rattle.std.proofs.Common.{◌≡◌, ℕ, ℤ, ◌<◌, ◌≤◌, zero, suc, true, List, [], ◌∷◌, length, drop, get_or, arith, refl, ap, sym, ◌∙◌, Option, Some, None}
use Rattle.mpi_types.specs.declared.group.Communicator.{Communicator}
use Rattle.mpi_types.specs.declared.state.OwnData.{OwnData}
use Rattle.mpi_rules.specs.Data.{communicator_in, comm_facts, facts_in, place_among}
use Rattle.mpi_rules.specs.Messages.{group_in, group_of}
use Rattle.mpi_call.specs.Lawful.{AreSized, MayJoin, most_ranks}
use Rattle.mpi_call.proofs.SizeLemmas.{found_has}

front_at : {X : Type 0} (xs : List X) (i : ℕ) (d : X) → get_or (drop i xs) 0 d ≡ get_or xs i d
front_at [] zero d = refl
front_at [] (suc i) d = refl
front_at (x ∷ xs) zero d = refl
front_at (x ∷ xs) (suc i) d = front_at xs i d

-- lists that are the same from i on have the same element there
pub same_at : {X : Type 0} (xs ys : List X) (i : ℕ) (d : X) → drop i xs ≡ drop i ys → get_or xs i d ≡ get_or ys i d
same_at {X} xs ys i d same = sym (front_at xs i d) ∙ (ap (λ (zs : List X). get_or zs 0 d) same ∙ front_at ys i d)

group_small : (o : Option Communicator) → ((c : Communicator) → o ≡ Some c → length c.group.members ≤ most_ranks)
    → length (group_in o).members ≤ most_ranks
group_small None h = omega arith
group_small (Some c) h = h c refl

pub group_sized : (own : OwnData) (n : ℤ) → AreSized own → length (group_of own n).members ≤ most_ranks
group_sized own n sized =
    group_small (communicator_in own.communicators n)
    (λ c is. found_has (λ (x : Communicator). length x.group.members ≤ most_ranks) _ own.communicators c sized.members is)

member_in : (rank : ℕ) (o : Option Communicator) → ((c : Communicator) → o ≡ Some c → place_among rank c.group.members < length c.group.members)
    → (facts_in rank o).known ≡ true → (facts_in rank o).member < length (group_in o).members
member_in rank None h known = absurd cc
member_in rank (Some c) h known = h c refl

pub member_of : (rank : ℕ) (own : OwnData) (n : ℤ) → MayJoin rank own → (comm_facts rank own n).known ≡ true
    → (comm_facts rank own n).member < length (group_of own n).members
unfolding comm_facts
member_of rank own n may known =
    member_in rank (communicator_in own.communicators n)
    (λ c is. found_has (λ (x : Communicator). place_among rank x.group.members < length x.group.members) _ own.communicators c may.member is) known
