-- Requests that are put into the lists of their kinds, one after another.
use Rattle.std.proofs.Common.{◌≡◌, ◌∙◌, ◌+◌, ◌-◌, ◌<◌, ℕ, List, [], ◌∷◌, ◌++◌, Option, Some, None, refl, sym, ap, append_assoc, append-nil}
use Rattle.std.specs.Prelude.{reverse}
use Rattle.std.proofs.lemmas.List.{reverse-append}
use Rattle.mpi_types.specs.declared.lists.MatchedPair.{MatchedPair}
use Rattle.mpi_types.specs.declared.message.Posted.{Posted}
use Rattle.mpi_types.specs.declared.state.CompleteRequest.{CompleteRequest}
use Rattle.rank_image.specs.declared.requests.Request.{Request}
use Rattle.rank_image.specs.declared.requests.Requests.{Requests}
use Rattle.rank_image.specs.Requests.{as_complete, as_waiting, as_matched, with_some, kept, sorted, with_request}

-- some requests, and those of a list put behind them
abbrev pub sorted_onto : Requests → List Request → Requests
sorted_onto r rs =
    record {
      next = r.next;
      complete = r.complete ++ kept as_complete rs;
      posted = r.posted ++ kept as_waiting rs;
      matched = r.matched ++ kept as_matched rs;
    }

one_behind : {Z : Type 0} (zs : List Z) (o : Option Z) (ys : List Z) → zs ++ with_some o ys ≡ (zs ++ with_some o []) ++ ys
one_behind zs None ys = ap (λ l. l ++ ys) (sym (append-nil zs))
one_behind zs (Some z) ys = sym (append_assoc zs (z ∷ []) ys)

same_requests : (n : ℕ) (a b : List CompleteRequest) (c d : List Posted) (e f : List MatchedPair) → a ≡ b → c ≡ d → e ≡ f
    → ◌≡◌ {A = Requests} (record { next = n; complete = a; posted = c; matched = e }) (record { next = n; complete = b; posted = d; matched = f })
same_requests n a b c d e f x y z =
    ap (λ l. record { next = n; complete = l; posted = c; matched = e }) x
    ∙ ap (λ l. record { next = n; complete = b; posted = l; matched = e }) y
    ∙ ap (λ l. record { next = n; complete = b; posted = d; matched = l }) z

one_sorted : (r : Requests) (q : Request) (rs : List Request) → sorted_onto r (q ∷ rs) ≡ sorted_onto (with_request r q) rs
one_sorted r q rs =
    same_requests r.next _ _ _ _ _ _ (one_behind r.complete (as_complete q) (kept as_complete rs))
    (one_behind r.posted (as_waiting q) (kept as_waiting rs)) (one_behind r.matched (as_matched q) (kept as_matched rs))

-- one more is put
pub more_sorted : (all now : Requests) (q : Request) (before behind : List Request) (next : Requests) → all ≡ sorted_onto now (reverse before)
    → before ≡ behind ++ q ∷ [] → next ≡ with_request now q → all ≡ sorted_onto next (reverse behind)
more_sorted all now q before behind next was is put =
    was ∙ ap (λ rs. sorted_onto now (reverse rs)) is ∙ ap (sorted_onto now) (reverse-append behind (q ∷ []))
    ∙ one_sorted now q (reverse behind) ∙ ap (λ r. sorted_onto r (reverse behind)) (sym put)

-- none is left
pub all_sorted : (all now : Requests) (left : List Request) → all ≡ sorted_onto now (reverse left) → left ≡ [] → now ≡ all
all_sorted all now left was none =
    let same : sorted_onto now [] ≡ now =
    same_requests now.next _ _ _ _ _ _ (append-nil now.complete) (append-nil now.posted) (append-nil now.matched) in
    sym (was ∙ ap (λ rs. sorted_onto now (reverse rs)) none ∙ same)
