-- What holds of a rank's MPI data holds behind each tick and each arrival.
use Rattle.std.proofs.Common.{◌≡◌, ℕ, ◌+◌, ◌^◌, ◌<◌, ◌≤◌, ◌==◌, ◌||◌, ◌⊎◌, inl, inr, not, Bool, true, false, List, [], ◌∷◌, ◌++◌, refl, ap, sym, subst, arith, ◌∙◌, Option, Some, None}
use Rattle.std.specs.Prelude.{All, Any, ℤ, slice_index, is_some, length, if◌then◌else◌, cond}
use Rattle.std.specs.List.{list_any}
use Rattle.std.specs.Ordering.{int_eq}
use Rattle.std.proofs.lemmas.Bool.{eq-eqb, eqb-true}
use Rattle.std.proofs.lemmas.List.Elements.{All-filter, All-push, All-weaker}
use Rattle.std.proofs.lemmas.List.Quantifiers.{all_pairs_push}
use Rattle.std.proofs.lemmas.List.Folds.{list_any-append}
use Rattle.am_base.specs.declared.calls.MpiCall.TheVariants as call
use Rattle.am_base.specs.declared.traps.TrapCause.{TrapCause}
use Rattle.rank_range.specs.Areas.{Areas}
use Rattle.mpi_types.specs.declared.argument.Sweep.{Sweep}
use Rattle.mpi_types.specs.declared.call.Write.{Write}
use Rattle.mpi_types.specs.declared.collective.Collective.TheVariants as kind
use Rattle.mpi_types.specs.declared.constants.TheConstants.{PROC_NULL}
use Rattle.mpi_types.specs.declared.group.Communicator.{Communicator}
use Rattle.mpi_types.specs.declared.lists.BookLists.{BookLists}
use Rattle.mpi_types.specs.declared.lists.MatchedPair.{MatchedPair}
use Rattle.mpi_types.specs.declared.message.Hit.{Hit}
use Rattle.mpi_types.specs.declared.message.Message.{Message}
use Rattle.mpi_types.specs.declared.message.Posted.{Posted}
use Rattle.mpi_types.specs.declared.state.CompleteKind.{CompleteKind}
use Rattle.mpi_types.specs.declared.state.CompleteKind.TheVariants.{Send, NoProcess}
use Rattle.mpi_types.specs.declared.state.CompleteRequest.{CompleteRequest}
use Rattle.mpi_types.specs.declared.state.OwnData.{OwnData}
use Rattle.mpi_types.specs.declared.state.Phase.{Phase}
use Rattle.mpi_types.specs.Book.{IsLive, IsNext, IsOrderly}
use Rattle.mpi_types.specs.Post.{Posts, Arrives}
use Rattle.mpi_types.proofs.BookLemmas.{Posts-orderly, Posts-next, Arrives-orderly, Arrives-next}
use Rattle.mpi_rules.specs.Data.{MpiData, complete_of, data_of, is_live, is_waiting, pair_of, place_among}
use Rattle.mpi_rules.specs.Messages.{own_with_complete, own_with_next}
use Rattle.mpi_call.specs.Answers.{Kept, kept, data_in}
use Rattle.mpi_call.specs.InOrder.{AreInOrder}
use Rattle.mpi_call.specs.Lawful.{AreApart, AreSized}
use Rattle.mpi_call.specs.Steady.{HasMember, IsSteady, ArrivesSteady, SteadyBegin}
use Rattle.mpi_call.proofs.LiveLemmas.{any_tested, tested_any, found_any, live_tested, tested_live, true_or, or_true}

-- ---- numbers in lists

-- one of them is the one in the middle, or among the others
pub any_split : {X : Type 0} (f : X → ℕ) (front : List X) (x : X) (back : List X) (n : ℕ) → Any (λ y. f y ≡ n) (front ++ x ∷ back)
    → Any (λ y. f y ≡ n) (front ++ back) ⊎ (f x ≡ n)
any_split {X} f front x back n any = by_front (true_or (list_any test front) (test x || list_any test back) whole)
  where
    test : X → Bool
    test y = f y == n

    whole : (list_any test front || (test x || list_any test back)) ≡ true
    whole = sym (list_any-append test front (x ∷ back)) ∙ any_tested f (front ++ x ∷ back) n any

    others : (list_any test front ≡ true) ⊎ (list_any test back ≡ true) → Any (λ y. f y ≡ n) (front ++ back)
    others h = tested_any f (front ++ back) n (list_any-append test front back ∙ or_true (list_any test front) (list_any test back) h)

    by_back : (test x ≡ true) ⊎ (list_any test back ≡ true) → Any (λ y. f y ≡ n) (front ++ back) ⊎ (f x ≡ n)
    by_back (inl here) = inr (eqb-true (f x) n here)
    by_back (inr there) = inl (others (inr there))

    by_front : (list_any test front ≡ true) ⊎ ((test x || list_any test back) ≡ true) → Any (λ y. f y ≡ n) (front ++ back) ⊎ (f x ≡ n)
    by_front (inl here) = inl (others (inl here))
    by_front (inr there) = by_back (true_or (test x) (list_any test back) there)

-- and the other way round
pub any_with : {X : Type 0} (f : X → ℕ) (front : List X) (x : X) (back : List X) (n : ℕ) → Any (λ y. f y ≡ n) (front ++ back) ⊎ (f x ≡ n)
    → Any (λ y. f y ≡ n) (front ++ x ∷ back)
any_with {X} f front x back n either = tested_any f (front ++ x ∷ back) n (list_any-append test front (x ∷ back) ∙ whole either)
  where
    test : X → Bool
    test y = f y == n

    by_parts : (list_any test front ≡ true) ⊎ (list_any test back ≡ true) → (list_any test front || (test x || list_any test back)) ≡ true
    by_parts (inl h) = or_true (list_any test front) (test x || list_any test back) (inl h)
    by_parts (inr h) = or_true (list_any test front) (test x || list_any test back) (inr (or_true (test x) (list_any test back) (inr h)))

    whole : Any (λ y. f y ≡ n) (front ++ back) ⊎ (f x ≡ n) → (list_any test front || (test x || list_any test back)) ≡ true
    whole (inl any) =
        by_parts (true_or (list_any test front) (list_any test back) (sym (list_any-append test front back) ∙ any_tested f (front ++ back) n any))
    whole (inr is) =
        or_true (list_any test front) (test x || list_any test back)
        (inr (or_true (test x) (list_any test back) (inl (eq-eqb (f x) n is))))

-- a number at or above all of them is none of them
pub above_none : {X : Type 0} (f : X → ℕ) (xs : List X) (n m : ℕ) → All (λ x. f x < n) xs → n ≤ m → Any (λ x. f x ≡ m) xs → ⊥
above_none {X} f xs n m below above any =
    let lower : f any.1 < n = subst (λ (x : X). f x < n) any.3 (below any.0 any.1 any.2) in
    let is = any.4 in
    omega (arith, lower, is, above)

next_dead : (l : BookLists) (n m : ℕ) → IsNext l n → n ≤ m → IsLive l m → ⊥
next_dead l n m next above (inl waiting) = above_none (λ r. r.request) l.posted n m next.above_posted above waiting
next_dead l n m next above (inr matched) = above_none (λ p. p.receive.request) l.matched n m next.above_matched above matched

next_later : (l : BookLists) (n : ℕ) → IsNext l n → IsNext l (n + 1)
next_later l n next = record {
  above_posted = All-weaker (λ r. r.request < n) (λ r. r.request < n + 1) (λ r lt. omega arith) l.posted next.above_posted;
  above_matched = All-weaker (λ p. p.receive.request < n) (λ p. p.receive.request < n + 1) (λ p lt. omega arith) l.matched next.above_matched;
}

below_later : (requests : List CompleteRequest) (n : ℕ) → All (λ r. r.number < n) requests → All (λ r. r.number < n + 1) requests
below_later requests n below = All-weaker (λ r. r.number < n) (λ r. r.number < n + 1) (λ r lt. omega arith) requests below

complete_any : (n : ℕ) (requests : List CompleteRequest) → is_some (complete_of n requests) ≡ true → Any (λ r. r.number ≡ n) requests
complete_any n requests some = tested_any (λ r. r.number) requests n (sym (found_any (λ r. r.number == n) requests) ∙ some)

any_complete : (n : ℕ) (requests : List CompleteRequest) → Any (λ r. r.number ≡ n) requests → is_some (complete_of n requests) ≡ true
any_complete n requests any = found_any (λ r. r.number == n) requests ∙ any_tested (λ r. r.number) requests n any

append_nothing : {X : Type 0} (xs : List X) → xs ++ [] ≡ xs
append_nothing [] = refl
append_nothing (x ∷ xs) = ap (λ ys. x ∷ ys) (append_nothing xs)

-- ---- the requests in order

-- one more complete request
pub complete_ordered : (own : OwnData) (lists : BookLists) (kind : CompleteKind) → AreInOrder own lists
    → AreInOrder (own_with_complete kind own) lists
complete_ordered own lists kind o = record {
  apart = record { orderly = o.apart.orderly; apart = apart };
  next = next_later lists own.next o.next;
  below = All-push (λ r. r.number < own.next + 1) own.complete new (below_later own.complete own.next o.below) (omega arith);
}
  where
    new : CompleteRequest
    new = record { number = own.next; kind = kind }

    by_place : (n : ℕ) → Any (λ r. r.number ≡ n) (own.complete ++ []) ⊎ (own.next ≡ n) → IsLive lists n → ⊥
    by_place n (inl old) live =
        o.apart.apart n (any_complete n own.complete (subst (λ (xs : List CompleteRequest). Any (λ r. r.number ≡ n) xs) (append_nothing own.complete) old)) live
    by_place n (inr is) live = next_dead lists own.next n o.next (omega (arith, is)) live

    apart : (n : ℕ) → is_some (complete_of n (own.complete ++ new ∷ [])) ≡ true → IsLive lists n → ⊥
    apart n some live = by_place n (any_split (λ r. r.number) own.complete new [] n (complete_any n (own.complete ++ new ∷ []) some)) live

-- what is live behind a posting was live, or was posted
posts_back : (old : BookLists) (q : Posted) (hit : Option Hit) (new : BookLists) (n : ℕ) → Posts old q hit new → IsLive new n
    → IsLive old n ⊎ (q.request ≡ n)
posts_back old q None new n posts live = by_kind (subst (λ (l : BookLists). IsLive l n) posts.1 live)
  where
    by_place : Any (λ r. r.request ≡ n) (old.posted ++ []) ⊎ (q.request ≡ n) → IsLive old n ⊎ (q.request ≡ n)
    by_place (inl any) = inl (inl (subst (λ (xs : List Posted). Any (λ r. r.request ≡ n) xs) (append_nothing old.posted) any))
    by_place (inr is) = inr is

    by_kind : IsLive (record old { posted = old.posted ++ q ∷ [] }) n → IsLive old n ⊎ (q.request ≡ n)
    by_kind (inl waiting) = by_place (any_split (λ r. r.request) old.posted q [] n waiting)
    by_kind (inr matched) = inl (inr matched)
posts_back old q (Some hit) new n takes live = by_kind live
  where
    pair : MatchedPair
    pair = record { receive = q; message = takes.message }

    by_place : Any (λ p. p.receive.request ≡ n) (takes.matched.lower ++ takes.matched.higher) ⊎ (q.request ≡ n) → IsLive old n ⊎ (q.request ≡ n)
    by_place (inl any) = inl (inr (subst (λ (xs : List MatchedPair). Any (λ p. p.receive.request ≡ n) xs) (sym takes.matched.before) any))
    by_place (inr is) = inr is

    by_kind : IsLive new n → IsLive old n ⊎ (q.request ≡ n)
    by_kind (inl waiting) = inl (inl (subst (λ (xs : List Posted). Any (λ r. r.request ≡ n) xs) takes.posted waiting))
    by_kind (inr matched) =
        by_place (any_split (λ p. p.receive.request) takes.matched.lower pair takes.matched.higher n
        (subst (λ (xs : List MatchedPair). Any (λ p. p.receive.request ≡ n) xs) takes.matched.now matched))

-- one more receive
pub posted_ordered : (own : OwnData) (old : BookLists) (q : Posted) (hit : Option Hit) (new : BookLists) → q.request ≡ own.next
    → Posts old q hit new → AreInOrder own old → AreInOrder (own_with_next own) new
posted_ordered own old q hit new number posts o = record {
  apart = record { orderly = Posts-orderly old q hit new posts at o.apart.orderly; apart = apart };
  next = subst (λ (n : ℕ). IsNext new (n + 1)) number (Posts-next old q hit new posts at);
  below = below_later own.complete own.next o.below;
}
  where
    at : IsNext old q.request
    at = subst (λ (n : ℕ). IsNext old n) (sym number) o.next

    by_place : (n : ℕ) → is_some (complete_of n own.complete) ≡ true → IsLive old n ⊎ (q.request ≡ n) → ⊥
    by_place n some (inl live) = o.apart.apart n some live
    by_place n some (inr is) = above_none (λ r. r.number) own.complete own.next n o.below (omega (arith, is, number)) (complete_any n own.complete some)

    apart : (n : ℕ) → is_some (complete_of n own.complete) ≡ true → IsLive new n → ⊥
    apart n some live = by_place n some (posts_back old q hit new n posts live)

-- ---- arrivals

-- what is live behind an arrival was live
arrives_back : (old : BookLists) (m : Message) (hit : Option Hit) (new : BookLists) (n : ℕ) → Arrives old m hit new → IsLive new n → IsLive old n
arrives_back old m None new n arrives live = by_kind (subst (λ (l : BookLists). IsLive l n) arrives.1 live)
  where
    by_kind : IsLive (record old { arrived = old.arrived ++ m ∷ [] }) n → IsLive old n
    by_kind (inl waiting) = inl waiting
    by_kind (inr matched) = inr matched
arrives_back old m (Some hit) new n takes live = by_kind live
  where
    pair : MatchedPair
    pair = record { receive = takes.receive; message = m }

    back_posted : Any (λ r. r.request ≡ n) (takes.before ++ takes.receive ∷ takes.behind) → IsLive old n
    back_posted any = inl (subst (λ (xs : List Posted). Any (λ r. r.request ≡ n) xs) (sym takes.first.parts) any)

    by_place : Any (λ p. p.receive.request ≡ n) (takes.matched.lower ++ takes.matched.higher) ⊎ (takes.receive.request ≡ n) → IsLive old n
    by_place (inl any) = inr (subst (λ (xs : List MatchedPair). Any (λ p. p.receive.request ≡ n) xs) (sym takes.matched.before) any)
    by_place (inr is) = back_posted (any_with (λ r. r.request) takes.before takes.receive takes.behind n (inr is))

    by_kind : IsLive new n → IsLive old n
    by_kind (inl waiting) =
        back_posted (any_with (λ r. r.request) takes.before takes.receive takes.behind n
        (inl (subst (λ (xs : List Posted). Any (λ r. r.request ≡ n) xs) takes.posted waiting)))
    by_kind (inr matched) =
        by_place (any_split (λ p. p.receive.request) takes.matched.lower pair takes.matched.higher n
        (subst (λ (xs : List MatchedPair). Any (λ p. p.receive.request ≡ n) xs) takes.matched.now matched))

-- what is live before it stays so
arrives_on : (old : BookLists) (m : Message) (hit : Option Hit) (new : BookLists) (n : ℕ) → Arrives old m hit new → IsLive old n → IsLive new n
arrives_on old m None new n arrives live = subst (λ (l : BookLists). IsLive l n) (sym arrives.1) (by_kind live)
  where
    by_kind : IsLive old n → IsLive (record old { arrived = old.arrived ++ m ∷ [] }) n
    by_kind (inl waiting) = inl waiting
    by_kind (inr matched) = inr matched
arrives_on old m (Some hit) new n takes live = by_kind live
  where
    pair : MatchedPair
    pair = record { receive = takes.receive; message = m }

    to_matched : Any (λ p. p.receive.request ≡ n) (takes.matched.lower ++ takes.matched.higher) ⊎ (takes.receive.request ≡ n) → IsLive new n
    to_matched either =
        inr (subst (λ (xs : List MatchedPair). Any (λ p. p.receive.request ≡ n) xs) (sym takes.matched.now)
        (any_with (λ p. p.receive.request) takes.matched.lower pair takes.matched.higher n either))

    by_place : Any (λ r. r.request ≡ n) (takes.before ++ takes.behind) ⊎ (takes.receive.request ≡ n) → IsLive new n
    by_place (inl any) = inl (subst (λ (xs : List Posted). Any (λ r. r.request ≡ n) xs) (sym takes.posted) any)
    by_place (inr is) = to_matched (inr is)

    by_kind : IsLive old n → IsLive new n
    by_kind (inl waiting) =
        by_place (any_split (λ r. r.request) takes.before takes.receive takes.behind n
        (subst (λ (xs : List Posted). Any (λ r. r.request ≡ n) xs) takes.first.parts waiting))
    by_kind (inr matched) =
        to_matched (inl (subst (λ (xs : List MatchedPair). Any (λ p. p.receive.request ≡ n) xs) takes.matched.before matched))

arrived_ordered : (own : OwnData) (old : BookLists) (m : Message) (hit : Option Hit) (new : BookLists) → Arrives old m hit new
    → AreInOrder own old → AreInOrder own new
arrived_ordered own old m hit new arrives o = record {
  apart = record {
    orderly = Arrives-orderly old m hit new arrives o.apart.orderly;
    apart = λ n some live. o.apart.apart n some (arrives_back old m hit new n arrives live);
  };
  next = Arrives-next old m hit new own.next arrives o.next;
  below = o.below;
}

live_on : (rank : Kept) (new : BookLists) (n : ℕ) → (IsLive rank.lists n → IsLive new n) → is_live (data_in rank) n ≡ true
    → is_live (data_of rank.own rank.sweep new) n ≡ true
unfolding is_live
live_on k new n on h =
    by_part (true_or (is_some (complete_of n k.own.complete)) (is_waiting n k.lists.posted || is_some (pair_of n k.lists.matched)) h)
  where
    by_part : (is_some (complete_of n k.own.complete) ≡ true) ⊎ ((is_waiting n k.lists.posted || is_some (pair_of n k.lists.matched)) ≡ true)
        → (is_some (complete_of n k.own.complete) || (is_waiting n new.posted || is_some (pair_of n new.matched))) ≡ true
    by_part (inl some) = or_true (is_some (complete_of n k.own.complete)) (is_waiting n new.posted || is_some (pair_of n new.matched)) (inl some)
    by_part (inr live) =
        or_true (is_some (complete_of n k.own.complete)) (is_waiting n new.posted || is_some (pair_of n new.matched))
        (inr (live_tested new n (on (tested_live k.lists n live))))

pub arrives_steady : ArrivesSteady
arrives_steady rank ticks k message hit new arrives = (
  λ s. record {
    order = arrived_ordered k.own k.lists message hit new arrives s.order;
    some = s.some;
    few = s.few;
    communicators = s.communicators;
  },
  λ n live. live_on k new n (arrives_on k.lists message hit new n arrives) live,
)

pub steady_begin : SteadyBegin
steady_begin rank ticks k s idle fits = record {
  sized = s.communicators.sized;
  join = record {
    member = s.communicators.member;
    position = All-weaker (λ c. c.position ≤ ticks) (λ c. c.position + 1 < 2 ^ 32) (λ c le. omega arith) k.own.communicators s.communicators.positions;
  };
  take = record { fits = (let few = s.few in omega (arith, few, fits)); next = s.order.next };
  idle = idle;
}
