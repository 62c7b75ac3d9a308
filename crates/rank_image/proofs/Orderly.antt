-- A list of requests that ascends gives the lists of a book in order.
use Rattle.std.proofs.Common.{◌≡◌, ◌∙◌, ◌<◌, ◌≢◌, ℕ, zero, suc, true, List, [], ◌∷◌, length, get_or, All, AllPairs, refl, sym, ap, subst, arith}
use Rattle.byte_formats.specs.Formats.{ascends}
use Rattle.byte_formats.specs.FormatLaws.{both_true}
use Rattle.mpi_types.specs.declared.lists.BookLists.{BookLists}
use Rattle.mpi_types.specs.declared.lists.MatchedPair.{MatchedPair}
use Rattle.mpi_types.specs.declared.message.Message.{Message}
use Rattle.mpi_types.specs.declared.message.Posted.{Posted}
use Rattle.mpi_types.specs.Book.{IsOrderly}
use Rattle.rank_image.specs.declared.requests.Request.{Request}
use Rattle.rank_image.specs.declared.requests.Request.TheVariants.{Complete, Waiting, Matched}
use Rattle.rank_image.specs.declared.requests.Requests.{Requests}
use Rattle.rank_image.specs.Requests.{is_before, as_waiting, as_matched, kept, merged, listed_requests, request_list, requests}
use Rattle.rank_image.specs.RequestLaws.{AreAbove, first_below, waiting_back, matched_back}

pub all_none : {X : Type 0} (P : X → Type 0) → All P []
all_none P k d h = absurd (omega (arith, h))

pub all_cons : {X : Type 0} (P : X → Type 0) (x : X) (xs : List X) → P x → All P xs → All P (x ∷ xs)
all_cons P x xs first rest zero d h = first
all_cons P x xs first rest (suc k) d h = rest k d (omega (arith, h))

pairs_none : {X : Type 0} (R : X → X → Type 0) → AllPairs R []
pairs_none R i j d h k = absurd (omega (arith, k))

pairs_cons : {X : Type 0} (R : X → X → Type 0) (x : X) (xs : List X) → All (R x) xs → AllPairs R xs → AllPairs R (x ∷ xs)
pairs_cons R x xs first rest zero zero d h k = absurd (omega (arith, h))
pairs_cons R x xs first rest zero (suc j) d h k = first j d (omega (arith, k))
pairs_cons R x xs first rest (suc i) zero d h k = absurd (omega (arith, h))
pairs_cons R x xs first rest (suc i) (suc j) d h k = rest i j d (omega (arith, h)) (omega (arith, k))

-- what is above a number stays above it
above_waiting : (n : ℕ) (rs : List Request) → AreAbove n rs → All (λ (p : Posted). n < p.request) (kept as_waiting rs)
above_waiting n [] all = all_none (λ (p : Posted). n < p.request)
above_waiting n (Complete c ∷ rs) all = above_waiting n rs all.1
above_waiting n (Waiting p ∷ rs) all = all_cons (λ (q : Posted). n < q.request) p (kept as_waiting rs) all.0 (above_waiting n rs all.1)
above_waiting n (Matched m ∷ rs) all = above_waiting n rs all.1

above_matched : (n : ℕ) (rs : List Request) → AreAbove n rs → All (λ (m : MatchedPair). n < m.receive.request) (kept as_matched rs)
above_matched n [] all = all_none (λ (m : MatchedPair). n < m.receive.request)
above_matched n (Complete c ∷ rs) all = above_matched n rs all.1
above_matched n (Waiting p ∷ rs) all = above_matched n rs all.1
above_matched n (Matched m ∷ rs) all = all_cons (λ (q : MatchedPair). n < q.receive.request) m (kept as_matched rs) all.0 (above_matched n rs all.1)

posted_ascend : (rs : List Request) → ascends is_before rs ≡ true
    → AllPairs (λ (a b : Posted). a.request < b.request) (kept as_waiting rs)
posted_ascend [] e = pairs_none (λ (a b : Posted). a.request < b.request)
posted_ascend (Complete c ∷ rs) e = posted_ascend rs (first_below (Complete c) rs e).1
posted_ascend (Waiting p ∷ rs) e =
    let first = first_below (Waiting p) rs e in
    pairs_cons (λ (a b : Posted). a.request < b.request) p (kept as_waiting rs) (above_waiting p.request rs first.0) (posted_ascend rs first.1)
posted_ascend (Matched m ∷ rs) e = posted_ascend rs (first_below (Matched m) rs e).1

matched_ascend : (rs : List Request) → ascends is_before rs ≡ true
    → AllPairs (λ (a b : MatchedPair). a.receive.request < b.receive.request) (kept as_matched rs)
matched_ascend [] e = pairs_none (λ (a b : MatchedPair). a.receive.request < b.receive.request)
matched_ascend (Complete c ∷ rs) e = matched_ascend rs (first_below (Complete c) rs e).1
matched_ascend (Waiting p ∷ rs) e = matched_ascend rs (first_below (Waiting p) rs e).1
matched_ascend (Matched m ∷ rs) e =
    let first = first_below (Matched m) rs e in
    pairs_cons (λ (a b : MatchedPair). a.receive.request < b.receive.request) m (kept as_matched rs) (above_matched m.receive.request rs first.0) (matched_ascend rs first.1)

-- no number stands among both
abbrev pub AreApart : List Posted → List MatchedPair → Type 0
AreApart ps ms = All (λ (p : Posted). All (λ (m : MatchedPair). p.request ≢ m.receive.request) ms) ps

less_differs : (a b : ℕ) → a < b → a ≢ b
less_differs a b h e = omega (arith, h, e)

more_differs : (a b : ℕ) → b < a → a ≢ b
more_differs a b h e = omega (arith, h, e)

-- a receive whose number differs from those of all pairs
abbrev pub IsApart : List MatchedPair → Posted → Type 0
IsApart ms p = All (λ (m : MatchedPair). p.request ≢ m.receive.request) ms

below_all : (p : Posted) (ms : List MatchedPair) → All (λ (m : MatchedPair). p.request < m.receive.request) ms → IsApart ms p
below_all p ms h k d inside = less_differs p.request (get_or ms k d).receive.request (h k d inside)

one_more_apart : (m : MatchedPair) (ms : List MatchedPair) (ps : List Posted) → All (λ (p : Posted). m.receive.request < p.request) ps
    → AreApart ps ms → AreApart ps (m ∷ ms)
one_more_apart m ms ps above rest k d inside =
    all_cons (λ (q : MatchedPair). (get_or ps k d).request ≢ q.receive.request) m ms
    (more_differs (get_or ps k d).request m.receive.request (above k d inside)) (rest k d inside)

are_apart : (rs : List Request) → ascends is_before rs ≡ true → AreApart (kept as_waiting rs) (kept as_matched rs)
are_apart [] e = all_none (IsApart [])
are_apart (Complete c ∷ rs) e = are_apart rs (first_below (Complete c) rs e).1
are_apart (Waiting p ∷ rs) e =
    let first = first_below (Waiting p) rs e in
    all_cons (IsApart (kept as_matched rs)) p (kept as_waiting rs)
    (below_all p (kept as_matched rs) (above_matched p.request rs first.0)) (are_apart rs first.1)
are_apart (Matched m ∷ rs) e =
    let first = first_below (Matched m) rs e in
    one_more_apart m (kept as_matched rs) (kept as_waiting rs) (above_waiting m.receive.request rs first.0) (are_apart rs first.1)

-- so the lists of a book are orderly
pub orderly : (r : Requests) (arrived : List Message) → requests.fits r ≡ true
    → IsOrderly (record { posted = r.posted; matched = r.matched; arrived = arrived })
unfolding requests request_list
orderly r arrived e =
    let up : ascends is_before (listed_requests r) ≡ true = (both_true _ _ (both_true _ _ e).1).1 in
    let w = waiting_back r.complete r.posted r.matched in
    let m = matched_back r.complete r.posted r.matched in
    record {
      posted_ascend = subst (λ ps. AllPairs (λ (a b : Posted). a.request < b.request) ps) w (posted_ascend (listed_requests r) up);
      matched_ascend = subst (λ ms. AllPairs (λ (a b : MatchedPair). a.receive.request < b.receive.request) ms) m (matched_ascend (listed_requests r) up);
      apart = subst (λ ms. AreApart r.posted ms) m (subst (λ ps. AreApart ps (kept as_matched (listed_requests r))) w (are_apart (listed_requests r) up));
    }
