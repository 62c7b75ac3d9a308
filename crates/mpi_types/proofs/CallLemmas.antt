-- What a call answers over lists, and what a list of calls does, is settled by the lists before it.
use Rattle.std.proofs.Common.{◌≡◌, ◌↔◌, inl, inr, ℕ, Bool, true, false, List, [], ◌∷◌, ◌++◌, Option, None, Some, refl, subst, sym, ap, ◌∙◌}
use Rattle.std.specs.Prelude.{IsTrue, MatchOption}
use Rattle.mpi_types.specs.declared.message.Message.{Message}
use Rattle.mpi_types.specs.declared.lists.BookLists.{BookLists}
use Rattle.mpi_types.specs.declared.calls.BookCall.{BookCall}
use Rattle.mpi_types.specs.declared.calls.BookCall.TheVariants.{Post, Arrive, Complete, AskLive, AskMatched, AskReceive, AskMessage, Peek, AskLists, AskCount}
use Rattle.mpi_types.specs.declared.calls.BookAnswer.{BookAnswer}
use Rattle.mpi_types.specs.declared.calls.BookAnswer.TheVariants.{Met, Completed, Live, Matched, Receive, Found}
use Rattle.mpi_types.specs.Accepts.{Accepts}
use Rattle.mpi_types.specs.First.{NoneOf, IsFirstOf}
use Rattle.mpi_types.specs.Book.{IsWaiting, IsMatched, IsLive, IsMessageOf, IsOrderly}
use Rattle.mpi_types.specs.Calls.{MayAsk, Answers, IsAsked, IsRun}
use Rattle.mpi_types.proofs.BookLemmas.{Posts-orderly, Arrives-orderly, Completes-orderly}
use Rattle.mpi_types.proofs.OnceLemmas.{none_and_first, firsts_same, Posts-once, Arrives-once, Completes-once, waiting_and_matched, receive_once, message_once}

-- one truth of a fact
truth_once : (P : Type 0) (x y : Bool) → (IsTrue x ↔ P) → (IsTrue y ↔ P) → x ≡ y
truth_once P true true p q = refl
truth_once P true false p q = sym (q.1 (p.0 refl))
truth_once P false true p q = p.1 (q.0 refl)
truth_once P false false p q = refl

message_matched : (l : BookLists) (n : ℕ) (m : Message) → IsMessageOf l n m → IsMatched l n
message_matched l n m found = (found.0, found.1, found.2, found.3, found.4.0)

found_once : (l : BookLists) (n : ℕ) (x y : Option Message) → IsOrderly l
    → MatchOption x (IsWaiting l n) (IsMessageOf l n) → MatchOption y (IsWaiting l n) (IsMessageOf l n) → x ≡ y
found_once l n None None orderly p q = refl
found_once l n None (Some m) orderly p q = absurd (waiting_and_matched l n orderly p (message_matched l n m q))
found_once l n (Some m) None orderly p q = absurd (waiting_and_matched l n orderly q (message_matched l n m p))
found_once l n (Some m) (Some o) orderly p q = ap Some (message_once l n m o orderly p q)

peeked_once : (P : Message → Type 0) (arrived : List Message) (x y : Option Message)
    → MatchOption x (NoneOf P arrived) (IsFirstOf P arrived) → MatchOption y (NoneOf P arrived) (IsFirstOf P arrived) → x ≡ y
peeked_once P arrived None None p q = refl
peeked_once P arrived None (Some m) p q = absurd (none_and_first P arrived q.0 m q.1 p q.2)
peeked_once P arrived (Some m) None p q = absurd (none_and_first P arrived p.0 m p.1 q p.2)
peeked_once P arrived (Some m) (Some o) p q = ap Some (firsts_same P arrived p.0 q.0 m o p.1 q.1 p.2 q.2).same

answers_once : (old : BookLists) (call : BookCall) (x y : BookAnswer) (new new' : BookLists) → IsOrderly old
    → Answers old call x new → Answers old call y new' → (x ≡ y) × (new ≡ new')
answers_once old (Post receive) x y new new' orderly p q =
    let same = Posts-once old receive p.0 q.0 new new' p.2 q.2 in (p.1 ∙ ap Met same.0 ∙ sym q.1, same.1)
answers_once old (Arrive message) x y new new' orderly p q =
    let same = Arrives-once old message p.0 q.0 new new' p.2 q.2 in (p.1 ∙ ap Met same.0 ∙ sym q.1, same.1)
answers_once old (Complete request) x y new new' orderly p q =
    let same = Completes-once old request p.0 q.0 new new' orderly p.2 q.2 in (p.1 ∙ ap Completed same.0 ∙ sym q.1, same.1)
answers_once old (AskLive request) x y new new' orderly p q =
    (p.1 ∙ ap Live (truth_once (IsLive old request) p.0 q.0 p.2 q.2) ∙ sym q.1, p.3 ∙ sym q.3)
answers_once old (AskMatched request) x y new new' orderly p q =
    (p.1 ∙ ap Matched (truth_once (IsMatched old request) p.0 q.0 p.2 q.2) ∙ sym q.1, p.3 ∙ sym q.3)
answers_once old (AskReceive request) x y new new' orderly p q =
    (p.1 ∙ ap Receive (receive_once old request p.0 q.0 orderly p.2 q.2) ∙ sym q.1, p.3 ∙ sym q.3)
answers_once old (AskMessage request) x y new new' orderly p q =
    (p.1 ∙ ap Found (found_once old request p.0 q.0 orderly p.2 q.2) ∙ sym q.1, p.3 ∙ sym q.3)
answers_once old (Peek envelope) x y new new' orderly p q =
    (p.1 ∙ ap Found (peeked_once (Accepts envelope.ctx envelope.source envelope.tag) old.arrived p.0 q.0 p.2 q.2) ∙ sym q.1, p.3 ∙ sym q.3)
answers_once old AskLists x y new new' orderly p q = (p.0 ∙ sym q.0, p.1 ∙ sym q.1)
answers_once old AskCount x y new new' orderly p q = (p.0 ∙ sym q.0, p.1 ∙ sym q.1)

asked_once : (old : BookLists) (call : BookCall) (x y : BookAnswer) (new new' : BookLists) → IsOrderly old
    → IsAsked old call x new → IsAsked old call y new' → (x ≡ y) × (new ≡ new')
asked_once old call x y new new' orderly (inl p) (inl q) = answers_once old call x y new new' orderly p.1 q.1
asked_once old call x y new new' orderly (inl p) (inr q) = absurd (q.0 p.0)
asked_once old call x y new new' orderly (inr p) (inl q) = absurd (p.0 q.0)
asked_once old call x y new new' orderly (inr p) (inr q) = (p.1 ∙ sym q.1, p.2 ∙ sym q.2)

answers_orderly : (old : BookLists) (call : BookCall) (x : BookAnswer) (new : BookLists)
    → MayAsk old call → Answers old call x new → IsOrderly old → IsOrderly new
answers_orderly old (Post receive) x new may p orderly = Posts-orderly old receive p.0 new p.2 may orderly
answers_orderly old (Arrive message) x new may p orderly = Arrives-orderly old message p.0 new p.2 orderly
answers_orderly old (Complete request) x new may p orderly = Completes-orderly old request p.0 new p.2 orderly
answers_orderly old (AskLive request) x new may p orderly = subst IsOrderly (sym p.3) orderly
answers_orderly old (AskMatched request) x new may p orderly = subst IsOrderly (sym p.3) orderly
answers_orderly old (AskReceive request) x new may p orderly = subst IsOrderly (sym p.3) orderly
answers_orderly old (AskMessage request) x new may p orderly = subst IsOrderly (sym p.3) orderly
answers_orderly old (Peek envelope) x new may p orderly = subst IsOrderly (sym p.3) orderly
answers_orderly old AskLists x new may p orderly = subst IsOrderly (sym p.1) orderly
answers_orderly old AskCount x new may p orderly = subst IsOrderly (sym p.1) orderly

asked_orderly : (old : BookLists) (call : BookCall) (x : BookAnswer) (new : BookLists)
    → IsAsked old call x new → IsOrderly old → IsOrderly new
asked_orderly old call x new (inl p) orderly = answers_orderly old call x new p.0 p.1 orderly
asked_orderly old call x new (inr p) orderly = subst IsOrderly (sym p.2) orderly

pub runs_once : (calls : List BookCall) (old : BookLists) (xs ys : List BookAnswer) (new new' : BookLists) → IsOrderly old
    → IsRun old calls xs new → IsRun old calls ys new' → (xs ≡ ys) × (new ≡ new')
runs_once [] old xs ys new new' orderly p q = (p.0 ∙ sym q.0, p.1 ∙ sym q.1)
runs_once (call ∷ calls) old xs ys new new' orderly p q =
    let first = asked_once old call p.0 q.0 p.2 q.2 orderly p.4 q.4 in
    let P : BookLists → Type 0 = λ l. IsRun l calls q.1 new' in
    let rest = runs_once calls p.2 p.1 q.1 new new' (asked_orderly old call p.0 p.2 p.4 orderly) p.5 (subst P (sym first.1) q.5) in
    (p.3 ∙ ap (λ a. a ∷ p.1) first.0 ∙ ap (λ r. q.0 ∷ r) rest.0 ∙ sym q.3, rest.1)

-- a run with one more call
pub run_more : (calls : List BookCall) (old : BookLists) (xs : List BookAnswer) (middle : BookLists) (call : BookCall)
    (answer : BookAnswer) (new : BookLists) → IsRun old calls xs middle → IsAsked middle call answer new
    → IsRun old (calls ++ call ∷ []) (xs ++ answer ∷ []) new
run_more [] old xs middle call answer new p asked =
    let P : BookLists → Type 0 = λ l. IsAsked l call answer new in
    (answer, [], new, ap (λ l. l ++ answer ∷ []) p.0, subst P p.1 asked, (refl, refl))
run_more (c ∷ calls) old xs middle call answer new p asked =
    (p.0, p.1 ++ answer ∷ [], p.2, ap (λ l. l ++ answer ∷ []) p.3, p.4, run_more calls p.2 p.1 middle call answer new p.5 asked)
