-- Three lists of requests that are written as one.
use Rattle.std.proofs.Common.{◌≡◌, ◌∙◌, ◌+◌, ◌<◌, ◌≤◌, ◌^◌, ℕ, Bool, true, false, ◌&&◌, nat_lt, cond, List, [], ◌∷◌, ◌++◌, length, drop, get_or, refl, sym, ap, subst, arith, append_assoc, drop-cons, zero, suc}
use Rattle.std.specs.Prelude.{map, nat_le, OnOk, Result}
use Rattle.std.proofs.Common.{Ok, Err}
use Rattle.std.proofs.lemmas.Bool.{leb-true}
use Rattle.std.specs.List.{flat_map, list_all}
use Rattle.std.proofs.lemmas.List.{length-map}
use Rattle.std.proofs.lemmas.Bool.Decides.{nat_tests}
use Rattle.byte_formats.specs.FormatLaws.{both_true}
use Rattle.mpi_types.specs.declared.lists.MatchedPair.{MatchedPair}
use Rattle.mpi_types.specs.declared.message.Posted.{Posted}
use Rattle.mpi_types.specs.declared.state.CompleteRequest.{CompleteRequest}
use Rattle.rank_image.specs.declared.requests.Request.{Request}
use Rattle.rank_image.specs.declared.requests.Request.TheVariants.{Complete, Waiting, Matched}
use Rattle.rank_image.specs.declared.requests.Requests.{Requests}
use Rattle.byte_formats.specs.Formats.{number32}
use Rattle.rank_image.specs.Requests.{number_of, request, is_before, merge_with, merge, merged, first_number, listed_requests, request_list, requests}

not_less : (a b : ℕ) → a ≤ b → nat_lt b a ≡ false
not_less a b h = grind (arith, nat_tests)

is_less : (a b : ℕ) → a < b → nat_lt a b ≡ true
is_less a b h = grind (arith, nat_tests)

-- which of two lists' firsts stands first
first_left : (r : Request) (rs ss : List Request) → number_of r ≤ first_number ss → merge (r ∷ rs) ss ≡ r ∷ merge rs ss
first_left r rs [] h = refl
first_left r rs (s ∷ ss) h = let no : is_before s r ≡ false = not_less (number_of r) (number_of s) h in rw no refl

first_right : (s : Request) (rs ss : List Request) → number_of s < first_number rs → merge rs (s ∷ ss) ≡ s ∷ merge rs ss
first_right s [] ss h = refl
first_right s (r ∷ rs) ss h = let yes : is_before s r ≡ true = is_less (number_of s) (number_of r) h in rw yes refl

least_if : (x : ℕ) (b : Bool) (rs ss : List Request) → x ≤ first_number rs → x ≤ first_number ss → x ≤ first_number (cond b rs ss)
least_if x true rs ss h k = h
least_if x false rs ss h k = k

least_first : (x : ℕ) (rs ss : List Request) → x ≤ first_number rs → x ≤ first_number ss → x ≤ first_number (merge rs ss)
least_first x [] ss h k = k
least_first x (r ∷ rs) [] h k = h
least_first x (r ∷ rs) (s ∷ ss) h k = least_if x (is_before s r) (s ∷ merge_with r (merge rs) ss) (r ∷ merge rs (s ∷ ss)) k h

-- the first element and those behind it
from_front : {X : Type 0} (xs : List X) (x : X) → 0 < length xs → x ≡ get_or xs 0 x → xs ≡ x ∷ drop 1 xs
from_front [] x h e = absurd (omega (arith, h))
from_front (y ∷ ys) x h e = ap (λ z. z ∷ ys) (sym e)

-- what is left of the three lists, with one request taken off
pub complete_off : (c : List CompleteRequest) (p : List Posted) (m : List MatchedPair) (x : CompleteRequest)
    → 0 < length c → x ≡ get_or c 0 x → first_number (map Complete c) ≤ first_number (map Waiting p)
    → first_number (map Complete c) ≤ first_number (map Matched m)
    → merged c p m ≡ Complete x ∷ merged (drop 1 c) p m
complete_off c p m x some at low lower =
    let is : c ≡ x ∷ drop 1 c = from_front c x some at in
    let number : first_number (map Complete c) ≡ x.number = ap (λ z. first_number (map Complete z)) is in
    ap (λ z. merged z p m) is
    ∙ first_left (Complete x) (map Complete (drop 1 c)) (merge (map Waiting p) (map Matched m))
    (least_first x.number (map Waiting p) (map Matched m) (subst (λ n. n ≤ first_number (map Waiting p)) number low)
    (subst (λ n. n ≤ first_number (map Matched m)) number lower))

pub waiting_off : (c : List CompleteRequest) (p : List Posted) (m : List MatchedPair) (x : Posted)
    → 0 < length p → x ≡ get_or p 0 x → first_number (map Waiting p) < first_number (map Complete c)
    → first_number (map Waiting p) ≤ first_number (map Matched m)
    → merged c p m ≡ Waiting x ∷ merged c (drop 1 p) m
waiting_off c p m x some at low lower =
    let is : p ≡ x ∷ drop 1 p = from_front p x some at in
    let number : first_number (map Waiting p) ≡ x.request = ap (λ z. first_number (map Waiting z)) is in
    ap (λ z. merged c z m) is
    ∙ ap (merge (map Complete c)) (first_left (Waiting x) (map Waiting (drop 1 p)) (map Matched m) (subst (λ n. n ≤ first_number (map Matched m)) number lower))
    ∙ first_right (Waiting x) (map Complete c) (merge (map Waiting (drop 1 p)) (map Matched m)) (subst (λ n. n < first_number (map Complete c)) number low)

pub matched_off : (c : List CompleteRequest) (p : List Posted) (m : List MatchedPair) (x : MatchedPair)
    → 0 < length m → x ≡ get_or m 0 x → first_number (map Matched m) < first_number (map Complete c)
    → first_number (map Matched m) < first_number (map Waiting p)
    → merged c p m ≡ Matched x ∷ merged c p (drop 1 m)
matched_off c p m x some at low lower =
    let is : m ≡ x ∷ drop 1 m = from_front m x some at in
    let number : first_number (map Matched m) ≡ x.receive.request = ap (λ z. first_number (map Matched z)) is in
    ap (λ z. merged c p z) is
    ∙ ap (merge (map Complete c)) (first_right (Matched x) (map Waiting p) (map Matched (drop 1 m)) (subst (λ n. n < first_number (map Waiting p)) number lower))
    ∙ first_right (Matched x) (map Complete c) (merge (map Waiting p) (map Matched (drop 1 m))) (subst (λ n. n < first_number (map Complete c)) number low)

-- What is kept over the steps: what is written and what is left are all, and what is left fits.
pub record IsOnWay (start now : List ℕ) (all left : List Request) : Type 0 where
  pub written : start ++ flat_map request.spell all ≡ now ++ flat_map request.spell left
  pub fits : list_all request.fits left ≡ true

pub on_way : (start : List ℕ) (all : List Request) → list_all request.fits all ≡ true → IsOnWay start start all all
on_way start all fits = record { written = refl; fits = fits }

-- the next request fits, and with it written the rest is left
pub next_fits : (start now : List ℕ) (all left rest : List Request) (r : Request) → IsOnWay start now all left → left ≡ r ∷ rest → request.fits r ≡ true
next_fits start now all left rest r way is = (both_true (request.fits r) (list_all request.fits rest) (ap (list_all request.fits) (sym is) ∙ way.fits)).0

pub step_on : (start now next : List ℕ) (all left rest : List Request) (r : Request) → IsOnWay start now all left → left ≡ r ∷ rest
    → next ≡ now ++ request.spell r → IsOnWay start next all rest
step_on start now next all left rest r way is put =
    record {
      written =
          way.written ∙ ap (λ rs. now ++ flat_map request.spell rs) is
          ∙ sym (append_assoc now (request.spell r) (flat_map request.spell rest))
          ∙ ap (λ bs. bs ++ flat_map request.spell rest) (sym put);
      fits = (both_true (request.fits r) (list_all request.fits rest) (ap (list_all request.fits) (sym is) ∙ way.fits)).1;
    }

length_if : (b : Bool) (rs ss : List Request) (n : ℕ) → length rs ≡ n → length ss ≡ n → length (cond b rs ss) ≡ n
length_if true rs ss n h k = h
length_if false rs ss n h k = k

-- how many requests there are in all
length_with : (r : Request) (rest : List Request → List Request) (n : ℕ) → ((ss : List Request) → length (rest ss) ≡ n + length ss)
    → (ss : List Request) → length (merge_with r rest ss) ≡ suc (n + length ss)
length_with r rest n h [] = ap suc (h [])
length_with r rest n h (s ∷ ss) =
    length_if (is_before s r) (s ∷ merge_with r rest ss) (r ∷ rest (s ∷ ss)) (suc (n + length (s ∷ ss)))
    (let one : length (s ∷ merge_with r rest ss) ≡ suc (length (merge_with r rest ss)) = refl in
    let more : length (s ∷ ss) ≡ suc (length ss) = refl in omega (arith, length_with r rest n h ss, one, more)) (ap suc (h (s ∷ ss)))

length_merge : (rs ss : List Request) → length (merge rs ss) ≡ length rs + length ss
length_merge [] ss = let none : length {A = Request} [] ≡ 0 = refl in let same : merge [] ss ≡ ss = refl in ap length same ∙ omega (arith, none)
length_merge (r ∷ rs) ss =
    let is : merge (r ∷ rs) ss ≡ merge_with r (merge rs) ss = refl in
    let more : length (r ∷ rs) ≡ suc (length rs) = refl in
    ap length is ∙ omega (arith, length_with r (merge rs) (length rs) (λ ts. length_merge rs ts) ss, more)

pub length_merged : (c : List CompleteRequest) (p : List Posted) (m : List MatchedPair) → length (merged c p m) ≡ length c + length p + length m
length_merged c p m =
    omega (
      arith,
      length_merge (map Complete c) (merge (map Waiting p) (map Matched m)),
      length_merge (map Waiting p) (map Matched m),
      length-map c Complete,
      length-map p Waiting,
      length-map m Matched,
    )

-- what a fitting list of requests says, and how it is spelled
pub requests_fit : (r : Requests) → requests.fits r ≡ true
    → (length r.complete + length r.posted + length r.matched ≤ 65536) × (list_all request.fits (listed_requests r) ≡ true)
unfolding requests request_list
requests_fit r e =
    let parts = both_true _ _ (both_true _ _ e).1 in
    let sizes = both_true _ _ parts.0 in
    let few : nat_le (length (listed_requests r)) 65536 ≡ true = (both_true _ _ sizes.0).1 in
    let least : length (listed_requests r) ≤ 65536 = leb-true (length (listed_requests r)) 65536 few in
    (omega (arith, least, length_merged r.complete r.posted r.matched), (both_true _ _ sizes.1).1)

pub requests_spelled : (r : Requests) (out a b c : List ℕ) (n : ℕ) → a ≡ out ++ number32.spell r.next
    → n ≡ length r.complete + length r.posted + length r.matched → b ≡ a ++ number32.spell n
    → c ≡ b ++ flat_map request.spell (listed_requests r) → c ≡ out ++ requests.spell r
unfolding requests request_list
requests_spelled r out a b c n first count second third =
    let rs = listed_requests r in
    let many : n ≡ length rs = count ∙ sym (length_merged r.complete r.posted r.matched) in
    third ∙ ap (λ z. z ++ flat_map request.spell rs) (second ∙ ap (λ k. a ++ number32.spell k) many)
    ∙ append_assoc a (number32.spell (length rs)) (flat_map request.spell rs)
    ∙ ap (λ z. z ++ (number32.spell (length rs) ++ flat_map request.spell rs)) first
    ∙ append_assoc out (number32.spell r.next) (number32.spell (length rs) ++ flat_map request.spell rs)

pub on_ok_by : {X E : Type 0} (r : Result X E) (P Q : Type 0) → (P → Q) → OnOk r P → OnOk r Q
on_ok_by (Ok x) P Q step p = step p
on_ok_by (Err e) P Q step p = tt
