-- Behind the first tick of a receive its request is live.
use Rattle.std.proofs.Common.{◌≡◌, ℕ, ◌+◌, ◌-◌, ◌==◌, ◌||◌, Bool, true, false, cond, List, [], ◌∷◌, ◌++◌, refl, ap, arith, ◌∙◌, Option, Some, None}
use Rattle.std.specs.Prelude.{is_some}
use Rattle.std.specs.List.{list_any}
use Rattle.std.specs.Ordering.{int_eq}
use Rattle.std.proofs.lemmas.Bool.{eq-eqb}
use Rattle.std.proofs.lemmas.List.Folds.{list_any-append}
use Rattle.rank_range.specs.Areas.{Areas}
use Rattle.mpi_types.specs.declared.constants.TheConstants.{PROC_NULL}
use Rattle.mpi_types.specs.declared.lists.BookLists.{BookLists}
use Rattle.mpi_types.specs.declared.lists.MatchedPair.{MatchedPair}
use Rattle.mpi_types.specs.declared.message.Hit.{Hit}
use Rattle.mpi_types.specs.declared.message.Posted.{Posted}
use Rattle.mpi_types.specs.declared.state.CompleteKind.TheVariants.{NoProcess}
use Rattle.mpi_types.specs.declared.state.CompleteRequest.{CompleteRequest}
use Rattle.mpi_types.specs.declared.state.OwnData.{OwnData}
use Rattle.mpi_types.specs.Post.{Posts}
use Rattle.mpi_rules.specs.declared.arguments.MessageArgs.{MessageArgs}
use Rattle.mpi_rules.specs.Data.{MpiData, complete_of, pair_of, is_live, is_waiting}
use Rattle.mpi_rules.specs.Faults.{cause_of}
use Rattle.mpi_rules.specs.Messages.{message_args, receive_faults, receive_reply, receiving, own_with_complete, own_with_next, post_of}
use Rattle.mpi_rules.specs.Reply.{Given, Gives, quiet, with_own}
use Rattle.mpi_call.specs.declared.done.Done.{Done}
use Rattle.mpi_call.specs.Answers.{Kept, data_in, DoesGive, IsGiven}
use Rattle.mpi_call.specs.InOrder.{ReceivesMayFinish}
use Rattle.mpi_call.proofs.LiveLemmas.{found_any}
use Rattle.mpi_call.proofs.OrderLemmas.{given_of}

or_holds : (a b : Bool) → b ≡ true → (a || b) ≡ true
or_holds true b h = refl
or_holds false b h = h

or_left : (a b : Bool) → a ≡ true → (a || b) ≡ true
or_left true b h = refl
or_left false b h = absurd cc

-- an element that the test finds, among others
any_among : {X : Type 0} (test : X → Bool) (front : List X) (x : X) (back : List X) → test x ≡ true → list_any test (front ++ x ∷ back) ≡ true
any_among test front x back h =
    list_any-append test front (x ∷ back) ∙ or_holds (list_any test front) (test x || list_any test back) (or_left (test x) (list_any test back) h)

-- the request is live, in one of three lists
live_complete : (mpi : MpiData) (n : ℕ) → list_any (λ r. r.number == n) mpi.own.complete ≡ true → is_live mpi n ≡ true
unfolding is_live
live_complete mpi n h =
    or_left (is_some (complete_of n mpi.own.complete)) (is_waiting n mpi.posted || is_some (pair_of n mpi.matched))
    (found_any (λ r. r.number == n) mpi.own.complete ∙ h)

live_waiting : (mpi : MpiData) (n : ℕ) → list_any (λ q. q.request == n) mpi.posted ≡ true → is_live mpi n ≡ true
unfolding is_live
live_waiting mpi n h =
    or_holds (is_some (complete_of n mpi.own.complete)) (is_waiting n mpi.posted || is_some (pair_of n mpi.matched))
    (or_left (is_waiting n mpi.posted) (is_some (pair_of n mpi.matched)) h)

live_matched : (mpi : MpiData) (n : ℕ) → list_any (λ p. p.receive.request == n) mpi.matched ≡ true → is_live mpi n ≡ true
unfolding is_live
live_matched mpi n h =
    or_holds (is_some (complete_of n mpi.own.complete)) (is_waiting n mpi.posted || is_some (pair_of n mpi.matched))
    (or_holds (is_waiting n mpi.posted) (is_some (pair_of n mpi.matched)) (found_any (λ p. p.receive.request == n) mpi.matched ∙ h))

same_number : (n : ℕ) → (n == n) ≡ true
same_number n = eq-eqb n n refl

abbrev May : Kept → Kept → Type 0
May old new = (new.own.next ≡ old.own.next + 1) × (is_live (data_in new) old.own.next ≡ true)

posted_live : (old new : Kept) (q : Posted) (hit : Option Hit) → q.request ≡ old.own.next → Posts old.lists q hit new.lists
    → is_live (data_in new) old.own.next ≡ true
posted_live old new q None number posts =
    live_waiting (data_in new) old.own.next
    (ap (λ (l : BookLists). list_any (λ r. r.request == old.own.next) l.posted) posts.1
    ∙ any_among (λ (r : Posted). r.request == old.own.next) old.lists.posted q [] (ap (λ (n : ℕ). n == old.own.next) number ∙ same_number old.own.next))
posted_live old new q (Some hit) number takes =
    live_matched (data_in new) old.own.next
    (ap (λ (ps : List MatchedPair). list_any (λ p. p.receive.request == old.own.next) ps) takes.matched.now
    ∙ any_among (λ (p : MatchedPair). p.receive.request == old.own.next) takes.matched.lower (record { receive = q; message = takes.message }) takes.matched.higher
    (ap (λ (n : ℕ). n == old.own.next) number ∙ same_number old.own.next))

complete_may : (old new : Kept) (done : Done) → IsGiven (record (quiet (with_own (own_with_complete NoProcess old.own) (data_in old))) { answer = None }) done old new
    → May old new
complete_may old new done given = (
  ap (λ (own : OwnData). own.next) given.own_is,
  live_complete (data_in new) old.own.next
      (ap (λ (own : OwnData). list_any (λ r. r.number == old.own.next) own.complete) given.own_is
      ∙ any_among (λ (r : CompleteRequest). r.number == old.own.next) old.own.complete (record { number = old.own.next; kind = NoProcess }) [] (same_number old.own.next)),
)

post_may : (old new : Kept) (done : Done) (args : MessageArgs)
    → IsGiven (record (quiet (with_own (own_with_next old.own) (data_in old))) { post = Some (post_of (data_in old) args); answer = None }) done old new → May old new
post_may old new done args given = (
  ap (λ (own : OwnData). own.next) given.own_is,
  posted_live old new (post_of (data_in old) args) done.hit refl given.book,
)

abbrev by_peer : MpiData → MessageArgs → Bool → Given
by_peer mpi args none =
    cond none (quiet (with_own (own_with_complete NoProcess mpi.own) mpi))
    (record (quiet (with_own (own_with_next mpi.own) mpi)) { post = Some (post_of mpi args) })

either_may : (old new : Kept) (done : Done) (args : MessageArgs) (none : Bool) → IsGiven (record (by_peer (data_in old) args none) { answer = None }) done old new
    → May old new
either_may old new done args true given = complete_may old new done given
either_may old new done args false given = post_may old new done args given

receive_may : (areas : Areas) (args : MessageArgs) (old new : Kept) (done : Done) → DoesGive (receive_reply areas (data_in old) args) done old new → May old new
unfolding receive_reply
receive_may areas args old new done h =
    either_may old new done args (int_eq args.peer PROC_NULL)
    (given_of (cause_of (receive_faults areas (data_in old) args)) (Gives (record (receiving (data_in old) args) { answer = None })) done old new h)

pub receives_may_finish : ReceivesMayFinish
receives_may_finish areas words done old new some h =
    let may = receive_may areas (message_args words) old new done h in
    let next = may.0 in
    let number : new.own.next - 1 ≡ old.own.next = omega (arith, next) in
    (omega (arith, next, some), ap (is_live (data_in new)) number ∙ may.1)
