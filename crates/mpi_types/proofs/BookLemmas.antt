-- What posting, arrival and completion keep.
use Rattle.std.proofs.Common.{◌≡◌, ◌≢◌, ℕ, ◌<◌, List, [], ◌∷◌, ◌++◌, ◌+◌, Option, None, Some, inl, inr, refl, subst, sym, ap, arith}
use Rattle.std.specs.Prelude.{All, AllPairs, Any}
use Rattle.std.proofs.lemmas.List.Elements.{All-push, All-weaker, All-append}
use Rattle.std.proofs.lemmas.List.Quantifiers.{all_pairs_push, Any-push}
use Rattle.mpi_types.specs.declared.message.Message.{Message}
use Rattle.mpi_types.specs.declared.message.Posted.{Posted}
use Rattle.mpi_types.specs.declared.message.Hit.{Hit}
use Rattle.mpi_types.specs.declared.lists.MatchedPair.{MatchedPair}
use Rattle.mpi_types.specs.declared.lists.BookLists.{BookLists}
use Rattle.mpi_types.specs.declared.book.Completion.{Completion}
use Rattle.mpi_types.specs.declared.book.Completion.TheVariants.{Done, NotYet}
use Rattle.mpi_types.specs.Accepts.{IsAcceptedBy}
use Rattle.mpi_types.specs.First.{NoneOf}
use Rattle.mpi_types.specs.Book.{IsLive, IsNext, IsOrderly, IsSettled}
use Rattle.mpi_types.specs.Post.{IsInserted, Posts, Arrives, Completes}
use Rattle.mpi_types.proofs.ListLemmas.{All-middle, Any-middle, All-without, All-with, All-both, AllPairs-without, AllPairs-with, AllPairs-before, AllPairs-behind}

-- the order of receives and that of pairs
abbrev pub Earlier : Posted → Posted → Type 0
Earlier a b = a.request < b.request

abbrev pub Lower : MatchedPair → MatchedPair → Type 0
Lower a b = a.receive.request < b.receive.request

abbrev pub IsApart : Posted → List MatchedPair → Type 0
IsApart receive pairs = All (λ pair. receive.request ≢ pair.receive.request) pairs

-- fewer messages
settled_without : (posted : List Posted) (before behind : List Message) (message : Message)
    → All (λ r. NoneOf (IsAcceptedBy r) (before ++ message ∷ behind)) posted
    → All (λ r. NoneOf (IsAcceptedBy r) (before ++ behind)) posted
settled_without posted before behind message h =
    All-weaker (λ r. NoneOf (IsAcceptedBy r) (before ++ message ∷ behind)) (λ r. NoneOf (IsAcceptedBy r) (before ++ behind))
    (λ r g. All-without (λ m. IsAcceptedBy r m → ⊥) before message behind g) posted h

-- one more message, which none accepts
settled_with : (posted : List Posted) (arrived : List Message) (message : Message)
    → All (λ r. NoneOf (IsAcceptedBy r) arrived) posted → NoneOf (λ r. IsAcceptedBy r message) posted
    → All (λ r. NoneOf (IsAcceptedBy r) (arrived ++ message ∷ [])) posted
settled_with posted arrived message h none =
    All-both (λ r. NoneOf (IsAcceptedBy r) arrived) (λ r. IsAcceptedBy r message → ⊥)
    (λ r. NoneOf (IsAcceptedBy r) (arrived ++ message ∷ []))
    (λ r g n. All-push (λ m. IsAcceptedBy r m → ⊥) arrived message g n) posted h none

-- both lists as they are
settled_at : (old new : BookLists) → new.posted ≡ old.posted → new.arrived ≡ old.arrived → IsSettled old → IsSettled new
settled_at old new p a h =
    let P : List Posted → Type 0 = λ posted. All (λ r. NoneOf (IsAcceptedBy r) new.arrived) posted in
    let Q : List Message → Type 0 = λ arrived. All (λ r. NoneOf (IsAcceptedBy r) arrived) old.posted in
    subst P (sym p) (subst Q (sym a) h)

pub Posts-settled : (old : BookLists) (receive : Posted) (hit : Option Hit) (new : BookLists)
    → Posts old receive hit new → IsSettled old → IsSettled new
Posts-settled old receive None new posts settled =
    subst IsSettled (sym posts.1) (All-push (λ r. NoneOf (IsAcceptedBy r) old.arrived) old.posted receive settled posts.0)
Posts-settled old receive (Some hit) new takes settled =
    let P : List Posted → Type 0 = λ posted. All (λ r. NoneOf (IsAcceptedBy r) new.arrived) posted in
    let Q : List Message → Type 0 = λ arrived. All (λ r. NoneOf (IsAcceptedBy r) arrived) old.posted in
    subst P (sym takes.posted)
    (subst Q (sym takes.arrived)
    (settled_without old.posted takes.before takes.behind takes.message (subst Q takes.first.parts settled)))

pub Arrives-settled : (old : BookLists) (message : Message) (hit : Option Hit) (new : BookLists)
    → Arrives old message hit new → IsSettled old → IsSettled new
Arrives-settled old message None new arrives settled =
    subst IsSettled (sym arrives.1) (settled_with old.posted old.arrived message settled arrives.0)
Arrives-settled old message (Some hit) new takes settled =
    let P : List Posted → Type 0 = λ posted. All (λ r. NoneOf (IsAcceptedBy r) new.arrived) posted in
    let Q : List Message → Type 0 = λ arrived. All (λ r. NoneOf (IsAcceptedBy r) arrived) old.posted in
    subst P (sym takes.posted)
    (All-without (λ r. NoneOf (IsAcceptedBy r) new.arrived) takes.before takes.receive takes.behind
    (subst P takes.first.parts (subst Q (sym takes.arrived) settled)))

pub Completes-settled : (old : BookLists) (request : ℕ) (completion : Completion) (new : BookLists)
    → Completes old request completion new → IsSettled old → IsSettled new
Completes-settled old request NotYet new completes settled = subst IsSettled (sym completes.1) settled
Completes-settled old request (Done message) new ends settled = subst IsSettled (sym ends.now) settled

-- a pair at its place
ascend_with : (old new : List MatchedPair) (pair : MatchedPair) → IsInserted old new pair → AllPairs Lower old → AllPairs Lower new
ascend_with old new pair inserted ascend =
    let P : List MatchedPair → Type 0 = AllPairs Lower in
    subst P (sym inserted.now)
    (AllPairs-with Lower inserted.lower pair inserted.higher inserted.all_lower inserted.all_higher (subst P inserted.before ascend))

apart_with : (receive : Posted) (old new : List MatchedPair) (pair : MatchedPair) → IsInserted old new pair
    → receive.request ≢ pair.receive.request → IsApart receive old → IsApart receive new
apart_with receive old new pair inserted other apart =
    let P : List MatchedPair → Type 0 = IsApart receive in
    subst P (sym inserted.now)
    (All-with (λ p. receive.request ≢ p.receive.request) inserted.lower pair inserted.higher other (subst P inserted.before apart))

pub Posts-orderly : (old : BookLists) (receive : Posted) (hit : Option Hit) (new : BookLists)
    → Posts old receive hit new → IsNext old receive.request → IsOrderly old → IsOrderly new
Posts-orderly old receive None new posts next orderly =
    subst IsOrderly (sym posts.1) (record {
      posted_ascend = all_pairs_push Earlier old.posted receive orderly.posted_ascend next.above_posted;
      matched_ascend = orderly.matched_ascend;
      apart = All-push (λ r. IsApart r old.matched) old.posted receive orderly.apart
          (All-weaker (λ p. p.receive.request < receive.request) (λ p. receive.request ≢ p.receive.request)
          (λ p lt e. omega arith) old.matched next.above_matched);
    })
Posts-orderly old receive (Some hit) new takes next orderly =
    let pair : MatchedPair = record { receive = receive; message = takes.message } in
    let P : List Posted → Type 0 = AllPairs Earlier in
    let Q : List Posted → Type 0 = All (λ r. IsApart r new.matched) in
    record {
      posted_ascend = subst P (sym takes.posted) orderly.posted_ascend;
      matched_ascend = ascend_with old.matched new.matched pair takes.matched orderly.matched_ascend;
      apart = subst Q (sym takes.posted)
          (All-both (λ r. IsApart r old.matched) (λ r. r.request < receive.request) (λ r. IsApart r new.matched)
          (λ r apart lt. apart_with r old.matched new.matched pair takes.matched (λ e. omega arith) apart)
          old.posted orderly.apart next.above_posted);
    }

pub Arrives-orderly : (old : BookLists) (message : Message) (hit : Option Hit) (new : BookLists)
    → Arrives old message hit new → IsOrderly old → IsOrderly new
Arrives-orderly old message None new arrives orderly =
    subst IsOrderly (sym arrives.1) (record {
      posted_ascend = orderly.posted_ascend;
      matched_ascend = orderly.matched_ascend;
      apart = orderly.apart;
    })
Arrives-orderly old message (Some hit) new takes orderly =
    let pair : MatchedPair = record { receive = takes.receive; message = message } in
    let P : List Posted → Type 0 = AllPairs Earlier in
    let Q : List Posted → Type 0 = All (λ r. IsApart r new.matched) in
    let A : List Posted → Type 0 = All (λ r. IsApart r old.matched) in
    let ascend : AllPairs Earlier (takes.before ++ takes.receive ∷ takes.behind) = subst P takes.first.parts orderly.posted_ascend in
    let apart : All (λ r. IsApart r old.matched) (takes.before ++ takes.behind) =
    All-without (λ r. IsApart r old.matched) takes.before takes.receive takes.behind (subst A takes.first.parts orderly.apart) in
    let differ : All (λ r. r.request ≢ takes.receive.request) (takes.before ++ takes.behind) =
    All-append (λ r. r.request ≢ takes.receive.request) takes.before takes.behind
    (All-weaker (λ r. r.request < takes.receive.request) (λ r. r.request ≢ takes.receive.request) (λ r lt e. omega arith)
    takes.before (AllPairs-before Earlier takes.before takes.receive takes.behind ascend))
    (All-weaker (λ r. takes.receive.request < r.request) (λ r. r.request ≢ takes.receive.request) (λ r lt e. omega arith)
    takes.behind (AllPairs-behind Earlier takes.before takes.receive takes.behind ascend)) in
    record {
      posted_ascend = subst P (sym takes.posted) (AllPairs-without Earlier takes.before takes.receive takes.behind ascend);
      matched_ascend = ascend_with old.matched new.matched pair takes.matched orderly.matched_ascend;
      apart = subst Q (sym takes.posted)
          (All-both (λ r. IsApart r old.matched) (λ r. r.request ≢ takes.receive.request) (λ r. IsApart r new.matched)
          (λ r free other. apart_with r old.matched new.matched pair takes.matched other free)
          (takes.before ++ takes.behind) apart differ);
    }

pub Completes-orderly : (old : BookLists) (request : ℕ) (completion : Completion) (new : BookLists)
    → Completes old request completion new → IsOrderly old → IsOrderly new
Completes-orderly old request NotYet new completes orderly = subst IsOrderly (sym completes.1) orderly
Completes-orderly old request (Done message) new ends orderly =
    let pair : MatchedPair = record { receive = ends.receive; message = message } in
    let P : List MatchedPair → Type 0 = AllPairs Lower in
    let Q : List MatchedPair → Type 0 = λ pairs. All (λ r. IsApart r pairs) old.posted in
    subst IsOrderly (sym ends.now) (record {
      posted_ascend = orderly.posted_ascend;
      matched_ascend = AllPairs-without Lower ends.lower pair ends.higher (subst P ends.before orderly.matched_ascend);
      apart = All-weaker (λ r. IsApart r (ends.lower ++ pair ∷ ends.higher)) (λ r. IsApart r (ends.lower ++ ends.higher))
          (λ r apart. All-without (λ p. r.request ≢ p.receive.request) ends.lower pair ends.higher apart)
          old.posted (subst Q ends.before orderly.apart);
    })

next_at : (l : BookLists) (n : ℕ) (posted : List Posted) (matched : List MatchedPair) → l.posted ≡ posted → l.matched ≡ matched
    → All (λ r. r.request < n) posted → All (λ p. p.receive.request < n) matched → IsNext l n
next_at l n posted matched p m low below =
    let P : List Posted → Type 0 = All (λ r. r.request < n) in
    let M : List MatchedPair → Type 0 = All (λ x. x.receive.request < n) in
    record { above_posted = subst P (sym p) low; above_matched = subst M (sym m) below }

-- after a post the number behind the receive's is above every live request
pub Posts-next : (old : BookLists) (receive : Posted) (hit : Option Hit) (new : BookLists)
    → Posts old receive hit new → IsNext old receive.request → IsNext new (receive.request + 1)
Posts-next old receive None new posts next =
    next_at new (receive.request + 1) (old.posted ++ receive ∷ []) old.matched (ap (λ l. l.posted) posts.1) (ap (λ l. l.matched) posts.1)
    (All-push (λ r. r.request < receive.request + 1) old.posted receive
    (All-weaker (λ r. r.request < receive.request) (λ r. r.request < receive.request + 1) (λ r lt. omega arith) old.posted next.above_posted)
    (omega arith))
    (All-weaker (λ p. p.receive.request < receive.request) (λ p. p.receive.request < receive.request + 1) (λ p lt. omega arith) old.matched next.above_matched)
Posts-next old receive (Some hit) new takes next =
    let pair : MatchedPair = record { receive = receive; message = takes.message } in
    let M : List MatchedPair → Type 0 = All (λ p. p.receive.request < receive.request + 1) in
    next_at new (receive.request + 1) old.posted (takes.matched.lower ++ pair ∷ takes.matched.higher) takes.posted takes.matched.now
    (All-weaker (λ r. r.request < receive.request) (λ r. r.request < receive.request + 1) (λ r lt. omega arith) old.posted next.above_posted)
    (All-with (λ p. p.receive.request < receive.request + 1) takes.matched.lower pair takes.matched.higher (omega arith)
    (subst M takes.matched.before
    (All-weaker (λ p. p.receive.request < receive.request) (λ p. p.receive.request < receive.request + 1) (λ p lt. omega arith)
    old.matched next.above_matched)))

pub Arrives-next : (old : BookLists) (message : Message) (hit : Option Hit) (new : BookLists) (n : ℕ)
    → Arrives old message hit new → IsNext old n → IsNext new n
Arrives-next old message None new n arrives next =
    next_at new n old.posted old.matched (ap (λ l. l.posted) arrives.1) (ap (λ l. l.matched) arrives.1) next.above_posted next.above_matched
Arrives-next old message (Some hit) new n takes next =
    let pair : MatchedPair = record { receive = takes.receive; message = message } in
    let P : List Posted → Type 0 = All (λ r. r.request < n) in
    let M : List MatchedPair → Type 0 = All (λ p. p.receive.request < n) in
    let low : P (takes.before ++ takes.receive ∷ takes.behind) = subst P takes.first.parts next.above_posted in
    next_at new n (takes.before ++ takes.behind) (takes.matched.lower ++ pair ∷ takes.matched.higher) takes.posted takes.matched.now
    (All-without (λ r. r.request < n) takes.before takes.receive takes.behind low)
    (All-with (λ p. p.receive.request < n) takes.matched.lower pair takes.matched.higher
    (All-middle (λ r. r.request < n) takes.before takes.receive takes.behind low) (subst M takes.matched.before next.above_matched))

pub Completes-next : (old : BookLists) (request : ℕ) (completion : Completion) (new : BookLists) (n : ℕ)
    → Completes old request completion new → IsNext old n → IsNext new n
Completes-next old request NotYet new n completes next =
    next_at new n old.posted old.matched (ap (λ l. l.posted) completes.1) (ap (λ l. l.matched) completes.1) next.above_posted next.above_matched
Completes-next old request (Done message) new n ends next =
    let pair : MatchedPair = record { receive = ends.receive; message = message } in
    let M : List MatchedPair → Type 0 = All (λ p. p.receive.request < n) in
    next_at new n old.posted (ends.lower ++ ends.higher) (ap (λ l. l.posted) ends.now) (ap (λ l. l.matched) ends.now) next.above_posted
    (All-without (λ p. p.receive.request < n) ends.lower pair ends.higher (subst M ends.before next.above_matched))

-- what was posted is live
pub Posts-live : (old : BookLists) (receive : Posted) (hit : Option Hit) (new : BookLists)
    → Posts old receive hit new → IsLive new receive.request
Posts-live old receive None new posts =
    let P : BookLists → Type 0 = λ l. IsLive l receive.request in
    subst P (sym posts.1) (inl (Any-push (λ r. r.request ≡ receive.request) old.posted receive refl))
Posts-live old receive (Some hit) new takes =
    let pair : MatchedPair = record { receive = receive; message = takes.message } in
    let M : List MatchedPair → Type 0 = Any (λ p. p.receive.request ≡ receive.request) in
    inr (subst M (sym takes.matched.now) (Any-middle (λ p. p.receive.request ≡ receive.request) takes.matched.lower pair takes.matched.higher refl))
