-- Requests are read back.
use Rattle.std.proofs.Common.{◌≡◌, ◌∙◌, ◌<◌, ◌≤◌, ◌⊎◌, ℕ, ℤ, Bool, true, false, ◌&&◌, nat_lt, cond, List, [], ◌∷◌, ◌++◌, Option, Some, None, refl, sym, ap, subst, inl, inr, arith}
use Rattle.std.specs.Prelude.{map}
use Rattle.std.proofs.lemmas.Bool.{ltb-true}
use Rattle.std.proofs.lemmas.Bool.Decides.{nat_tests}
use Rattle.byte_formats.specs.Formats.{Format, made, then_read, ascends}
use Rattle.byte_formats.specs.Lawful.{IsFormat, IsInFront}
use Rattle.byte_formats.specs.FormatLaws.{number32_is, number64_is, signed32_is, nothing_is, both_is, made_is, restricted_is, ascending_is, listed_is, reads_before, both_true}
use Rattle.byte_formats.specs.ChoiceLaws.{tagged_is, or_kinds_are, kind_is}
use Rattle.mpi_types.specs.declared.lists.MatchedPair.{MatchedPair}
use Rattle.mpi_types.specs.declared.message.Message.{Message}
use Rattle.mpi_types.specs.declared.message.Posted.{Posted}
use Rattle.mpi_types.specs.declared.state.CompleteKind.{CompleteKind}
use Rattle.mpi_types.specs.declared.state.CompleteKind.TheVariants.{Send, NoProcess}
use Rattle.mpi_types.specs.declared.state.CompleteRequest.{CompleteRequest}
use Rattle.rank_image.specs.declared.requests.Request.{Request}
use Rattle.rank_image.specs.declared.requests.Request.TheVariants.{Complete, Waiting, Matched}
use Rattle.rank_image.specs.declared.requests.Requests.{Requests}
use Rattle.rank_image.specs.Messages.{at_most}
use Rattle.rank_image.specs.MessageLaws.{context_is, message_is}
use Rattle.rank_image.specs.Requests.{Receive, receive, posted_of, receive_of, Choice, request_of, choice_of_kind, choice_of, number_of, request, is_before, request_list, as_complete, as_waiting, as_matched, with_some, kept, merge_with, merge, merged, sorted, listed_requests, requests}

-- A format of what is made of a value, where the value is got back from those that fit.
pub made_on_is : {X Y : Type 0} (f : Format X) (to : X → Y) (from : Y → X)
    → ((y : Y) → to (from y) ≡ y) → ((x : X) → f.fits x ≡ true → from (to x) ≡ x) → IsFormat f → IsFormat (made f to from)
made_on_is {X} {Y} f to from there here hf =
    record {
      back = λ y rest e. rw (hf.back (from y) rest e) (ap (λ z. Some (z, rest)) (there y));
      nothing_else = λ bytes found h e.
          let first = reads_before (f.read bytes) _ found e in
          let f_is : IsInFront f bytes first.0 = hf.nothing_else bytes first.0 h first.1 in
          let is : (to first.0.0, first.0.1) ≡ found = cc in
          let P : Y × List ℕ → Type 0 = λ p. IsInFront (made f to from) bytes p in
          subst P is (record {
            fits = ap f.fits (here first.0.0 f_is.fits) ∙ f_is.fits;
            bytes_are = f_is.bytes_are ∙ ap (λ x. f.spell x ++ first.0.1) (sym (here first.0.0 f_is.fits));
          });
    }

pub receive_is : IsFormat receive
unfolding receive
receive_is = both_is _ _ number64_is (both_is _ _ number32_is (both_is _ _ context_is (both_is _ _ signed32_is signed32_is)))

there_by : (n : ℕ) (k : CompleteKind) → request_of n (choice_of_kind k) ≡ Complete (record { number = n; kind = k })
there_by n Send = refl
there_by n NoProcess = refl

request_there : (r : Request) → request_of (number_of r) (choice_of r) ≡ r
request_there (Complete c) = there_by c.number c.kind
request_there (Waiting p) = refl
request_there (Matched m) = refl

number_here : (n : ℕ) (c : Choice) → number_of (request_of n c) ≡ n
number_here n (inl u) = refl
number_here n (inr (inl r)) = refl
number_here n (inr (inr (inl p))) = refl
number_here n (inr (inr (inr u))) = refl

choice_here : (n : ℕ) (c : Choice) → choice_of (request_of n c) ≡ c
choice_here n (inl u) = refl
choice_here n (inr (inl r)) = refl
choice_here n (inr (inr (inl p))) = refl
choice_here n (inr (inr (inr u))) = refl

two_same : {X Y : Type 0} (a b : X) (c d : Y) → a ≡ b → c ≡ d → ◌≡◌ {A = X × Y} (a, c) (b, d)
two_same a b c d e f = cc

pub request_is : IsFormat request
unfolding request
request_is =
    made_is _ _ _ request_there (λ x. two_same _ _ _ _ (number_here x.0 x.1) (choice_here x.0 x.1))
    (both_is _ _ number32_is
    (tagged_is _ (or_kinds_are 0 _ _ refl nothing_is
    (or_kinds_are 1 _ _ refl receive_is
    (or_kinds_are 2 _ _ refl (both_is _ _ receive_is message_is) (kind_is 3 _ nothing_is))))))

pub request_list_is : IsFormat request_list
unfolding request_list
request_list_is = ascending_is _ _ (listed_is _ _ (restricted_is _ _ number32_is) request_is)

-- what is kept of a list in which nothing is picked, and of one that is picked whole
kept_whole : {Z : Type 0} (pick : Request → Option Z) (f : Z → Request) → ((z : Z) → pick (f z) ≡ Some z)
    → (zs : List Z) → kept pick (map f zs) ≡ zs
kept_whole pick f h [] = refl
kept_whole pick f h (z ∷ zs) = rw (h z) (ap (λ ys. z ∷ ys) (kept_whole pick f h zs))

kept_nothing : {Y Z : Type 0} (pick : Request → Option Z) (f : Y → Request) → ((y : Y) → pick (f y) ≡ None)
    → (ys : List Y) → kept pick (map f ys) ≡ []
kept_nothing pick f h [] = refl
kept_nothing pick f h (y ∷ ys) = rw (h y) (kept_nothing pick f h ys)

-- where nothing is picked, the first isn't, nor is one behind it
picked_none : {Z : Type 0} (o : Option Z) (zs : List Z) → with_some o zs ≡ [] → (o ≡ None) × (zs ≡ [])
picked_none None zs e = (refl, e)
picked_none (Some z) zs e = absurd (cc)

kept_if : {Z : Type 0} (pick : Request → Option Z) (b : Bool) (xs ys : List Request) (zs : List Z)
    → kept pick xs ≡ zs → kept pick ys ≡ zs → kept pick (cond b xs ys) ≡ zs
kept_if pick true xs ys zs e f = e
kept_if pick false xs ys zs e f = f

-- of two lists in one as much is kept as of the one, where of the other nothing is kept
right_with : {Z : Type 0} (pick : Request → Option Z) (r : Request) (rest : List Request → List Request)
    → pick r ≡ None → ((ss : List Request) → kept pick (rest ss) ≡ kept pick ss)
    → (ss : List Request) → kept pick (merge_with r rest ss) ≡ kept pick ss
right_with pick r rest none h [] = rw none (h [])
right_with pick r rest none h (s ∷ ss) =
    kept_if pick (is_before s r) (s ∷ merge_with r rest ss) (r ∷ rest (s ∷ ss)) (kept pick (s ∷ ss))
    (ap (with_some (pick s)) (right_with pick r rest none h ss)) (rw none (h (s ∷ ss)))

kept_right : {Z : Type 0} (pick : Request → Option Z) (rs ss : List Request) → kept pick rs ≡ [] → kept pick (merge rs ss) ≡ kept pick ss
kept_right pick [] ss e = refl
kept_right pick (r ∷ rs) ss e =
    let none = picked_none (pick r) (kept pick rs) e in
    right_with pick r (merge rs) none.0 (λ ts. kept_right pick rs ts none.1) ss

left_with : {Z : Type 0} (pick : Request → Option Z) (r : Request) (rest : List Request → List Request) (zs : List Z)
    → ((ss : List Request) → kept pick ss ≡ [] → kept pick (rest ss) ≡ zs)
    → (ss : List Request) → kept pick ss ≡ [] → kept pick (merge_with r rest ss) ≡ with_some (pick r) zs
left_with pick r rest zs h [] e = ap (with_some (pick r)) (h [] refl)
left_with pick r rest zs h (s ∷ ss) e =
    let none = picked_none (pick s) (kept pick ss) e in
    kept_if pick (is_before s r) (s ∷ merge_with r rest ss) (r ∷ rest (s ∷ ss)) (with_some (pick r) zs)
    (rw none.0 (left_with pick r rest zs h ss none.1)) (ap (with_some (pick r)) (h (s ∷ ss) e))

kept_left : {Z : Type 0} (pick : Request → Option Z) (rs ss : List Request) → kept pick ss ≡ [] → kept pick (merge rs ss) ≡ kept pick rs
kept_left pick [] ss e = e
kept_left pick (r ∷ rs) ss e = left_with pick r (merge rs) (kept pick rs) (λ ts f. kept_left pick rs ts f) ss e

-- so the three lists are got back from the one
pub complete_back : (c : List CompleteRequest) (p : List Posted) (m : List MatchedPair) → kept as_complete (merged c p m) ≡ c
complete_back c p m =
    let no_waiting : kept as_complete (map Waiting p) ≡ [] = kept_nothing as_complete Waiting (λ y. refl) p in
    let no_matched : kept as_complete (map Matched m) ≡ [] = kept_nothing as_complete Matched (λ y. refl) m in
    kept_left as_complete (map Complete c) (merge (map Waiting p) (map Matched m))
    (kept_right as_complete (map Waiting p) (map Matched m) no_waiting ∙ no_matched)
    ∙ kept_whole as_complete Complete (λ z. refl) c

pub waiting_back : (c : List CompleteRequest) (p : List Posted) (m : List MatchedPair) → kept as_waiting (merged c p m) ≡ p
waiting_back c p m =
    kept_right as_waiting (map Complete c) (merge (map Waiting p) (map Matched m)) (kept_nothing as_waiting Complete (λ y. refl) c)
    ∙ kept_left as_waiting (map Waiting p) (map Matched m) (kept_nothing as_waiting Matched (λ y. refl) m)
    ∙ kept_whole as_waiting Waiting (λ z. refl) p

pub matched_back : (c : List CompleteRequest) (p : List Posted) (m : List MatchedPair) → kept as_matched (merged c p m) ≡ m
matched_back c p m =
    kept_right as_matched (map Complete c) (merge (map Waiting p) (map Matched m)) (kept_nothing as_matched Complete (λ y. refl) c)
    ∙ kept_right as_matched (map Waiting p) (map Matched m) (kept_nothing as_matched Waiting (λ y. refl) p)
    ∙ kept_whole as_matched Matched (λ z. refl) m

-- all numbers of the list are greater
abbrev pub AreAbove : ℕ → List Request → Type 0
AreAbove n [] = Unit {0}
AreAbove n (r ∷ rs) = (n < number_of r) × AreAbove n rs

pub above_less : (a b : ℕ) (rs : List Request) → a < b → AreAbove b rs → AreAbove a rs
above_less a b [] h all = tt
above_less a b (r ∷ rs) h all = (omega (arith, h, all.0), above_less a b rs h all.1)

-- in an ascending list the first is below all others
pub first_below : (r : Request) (rs : List Request) → ascends is_before (r ∷ rs) ≡ true → AreAbove (number_of r) rs × (ascends is_before rs ≡ true)
first_below r [] e = (tt, refl)
first_below r (s ∷ ss) e =
    let two = both_true (is_before r s) (ascends is_before (s ∷ ss)) e in
    let less : number_of r < number_of s = ltb-true (number_of r) (number_of s) two.0 in
    let rest = first_below s ss two.1 in
    ((less, above_less (number_of r) (number_of s) ss less rest.0), two.1)

not_before : (a b : ℕ) → a < b → nat_lt b a ≡ false
not_before a b h = grind (arith, nat_tests)

is_less : (a b : ℕ) → a < b → nat_lt a b ≡ true
is_less a b h = grind (arith, nat_tests)

-- the least of all stands first
pub least_left : (r : Request) (rs ss : List Request) → AreAbove (number_of r) ss → merge (r ∷ rs) ss ≡ r ∷ merge rs ss
least_left r rs [] all = refl
least_left r rs (s ∷ ss) all =
    let no : is_before s r ≡ false = not_before (number_of r) (number_of s) all.0 in
    rw no refl

pub least_right : (s : Request) (rs ss : List Request) → AreAbove (number_of s) rs → merge rs (s ∷ ss) ≡ s ∷ merge rs ss
least_right s [] ss all = refl
least_right s (r ∷ rs) ss all =
    let yes : is_before s r ≡ true = is_less (number_of s) (number_of r) all.0 in
    rw yes refl

above_if : (n : ℕ) (b : Bool) (xs ys : List Request) → AreAbove n xs → AreAbove n ys → AreAbove n (cond b xs ys)
above_if n true xs ys h k = h
above_if n false xs ys h k = k

above_with : (n : ℕ) (r : Request) (rest : List Request → List Request) → n < number_of r
    → ((ss : List Request) → AreAbove n ss → AreAbove n (rest ss)) → (ss : List Request) → AreAbove n ss → AreAbove n (merge_with r rest ss)
above_with n r rest less h [] all = (less, h [] tt)
above_with n r rest less h (s ∷ ss) all =
    above_if n (is_before s r) (s ∷ merge_with r rest ss) (r ∷ rest (s ∷ ss)) (all.0, above_with n r rest less h ss all.1) (less, h (s ∷ ss) all)

pub above_merge : (n : ℕ) (rs ss : List Request) → AreAbove n rs → AreAbove n ss → AreAbove n (merge rs ss)
above_merge n [] ss h k = k
above_merge n (r ∷ rs) ss h k = above_with n r (merge rs) h.0 (λ ts t. above_merge n rs ts h.1 t) ss k

-- what is kept of a list stays above what is below the list
above_kept : {Z : Type 0} (n : ℕ) (pick : Request → Option Z) (f : Z → Request) → ((r : Request) (z : Z) → pick r ≡ Some z → f z ≡ r)
    → (rs : List Request) → AreAbove n rs → AreAbove n (map f (kept pick rs))
above_kept n pick f h [] all = tt
above_kept {Z} n pick f h (r ∷ rs) all = above_picked n f r (pick r) (kept pick rs) (h r) all.0 (above_kept n pick f h rs all.1)
  where
    above_picked : (m : ℕ) (g : Z → Request) (q : Request) (o : Option Z) (zs : List Z) → ((z : Z) → o ≡ Some z → g z ≡ q)
        → m < number_of q → AreAbove m (map g zs) → AreAbove m (map g (with_some o zs))
    above_picked m g q None zs is less rest = rest
    above_picked m g q (Some z) zs is less rest = (subst (λ t. m < number_of t) (sym (is z refl)) less, rest)

complete_is : (r : Request) (z : CompleteRequest) → as_complete r ≡ Some z → Complete z ≡ r
complete_is (Complete c) z e = let same : c ≡ z = cc in ap Complete (sym same)
complete_is (Waiting p) z e = absurd (cc)
complete_is (Matched m) z e = absurd (cc)

waiting_is : (r : Request) (z : Posted) → as_waiting r ≡ Some z → Waiting z ≡ r
waiting_is (Complete c) z e = absurd (cc)
waiting_is (Waiting p) z e = let same : p ≡ z = cc in ap Waiting (sym same)
waiting_is (Matched m) z e = absurd (cc)

matched_is : (r : Request) (z : MatchedPair) → as_matched r ≡ Some z → Matched z ≡ r
matched_is (Complete c) z e = absurd (cc)
matched_is (Waiting p) z e = absurd (cc)
matched_is (Matched m) z e = let same : m ≡ z = cc in ap Matched (sym same)

all_complete_above : (n : ℕ) (rs : List Request) → AreAbove n rs → AreAbove n (map Complete (kept as_complete rs))
all_complete_above n rs all = above_kept n as_complete Complete complete_is rs all

all_waiting_above : (n : ℕ) (rs : List Request) → AreAbove n rs → AreAbove n (map Waiting (kept as_waiting rs))
all_waiting_above n rs all = above_kept n as_waiting Waiting waiting_is rs all

all_matched_above : (n : ℕ) (rs : List Request) → AreAbove n rs → AreAbove n (map Matched (kept as_matched rs))
all_matched_above n rs all = above_kept n as_matched Matched matched_is rs all

-- and the one list is got back from the three, where it ascends
pub merged_back : (rs : List Request) → ascends is_before rs ≡ true
    → merged (kept as_complete rs) (kept as_waiting rs) (kept as_matched rs) ≡ rs
merged_back [] e = refl
merged_back (Complete c ∷ rs) e =
    let first = first_below (Complete c) rs e in
    let cs = map Complete (kept as_complete rs) in
    let others = merge (map Waiting (kept as_waiting rs)) (map Matched (kept as_matched rs)) in
    least_left (Complete c) cs others
    (above_merge c.number _ _ (all_waiting_above c.number rs first.0) (all_matched_above c.number rs first.0))
    ∙ ap (λ ts. Complete c ∷ ts) (merged_back rs first.1)
merged_back (Waiting p ∷ rs) e =
    let first = first_below (Waiting p) rs e in
    let cs = map Complete (kept as_complete rs) in
    let ws = map Waiting (kept as_waiting rs) in
    let ms = map Matched (kept as_matched rs) in
    ap (merge cs) (least_left (Waiting p) ws ms (all_matched_above p.request rs first.0))
    ∙ least_right (Waiting p) cs (merge ws ms) (all_complete_above p.request rs first.0)
    ∙ ap (λ ts. Waiting p ∷ ts) (merged_back rs first.1)
merged_back (Matched m ∷ rs) e =
    let first = first_below (Matched m) rs e in
    let cs = map Complete (kept as_complete rs) in
    let ws = map Waiting (kept as_waiting rs) in
    let ms = map Matched (kept as_matched rs) in
    ap (merge cs) (least_right (Matched m) ws ms (all_waiting_above m.receive.request rs first.0))
    ∙ least_right (Matched m) cs (merge ws ms) (all_complete_above m.receive.request rs first.0)
    ∙ ap (λ ts. Matched m ∷ ts) (merged_back rs first.1)

requests_there : (r : Requests) (c : List CompleteRequest) (p : List Posted) (m : List MatchedPair) → r.complete ≡ c → r.posted ≡ p → r.matched ≡ m
    → ◌≡◌ {A = Requests} (record { next = r.next; complete = c; posted = p; matched = m }) r
requests_there r c p m e f g =
    ap (λ z. record { next = r.next; complete = z; posted = p; matched = m }) (sym e)
    ∙ ap (λ z. record { next = r.next; complete = r.complete; posted = z; matched = m }) (sym f)
    ∙ ap (λ z. record { next = r.next; complete = r.complete; posted = r.posted; matched = z }) (sym g)

pub requests_is : IsFormat requests
unfolding requests request_list
requests_is =
    made_on_is _ _ _
    (λ r. requests_there r _ _ _ (sym (complete_back r.complete r.posted r.matched)) (sym (waiting_back r.complete r.posted r.matched))
    (sym (matched_back r.complete r.posted r.matched)))
    (λ x e. two_same _ _ _ _ refl (merged_back x.1 (both_true _ _ (both_true _ _ e).1).1))
    (both_is _ _ number32_is request_list_is)
