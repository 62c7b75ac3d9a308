-- The requests of an array: what is looked at, and their end.
use Rattle.std.proofs.Common.{◌≡◌, ◌≢◌, ℕ, zero, suc, ◌+◌, ◌-◌, ◌*◌, ◌^◌, ◌<◌, ◌≤◌, ◌==◌, ◌||◌, ◌&&◌, ◌⊎◌, inl, inr, not, Bool, true, false, cond, List, [], ◌∷◌, ◌++◌, length, map, take, drop, get_or, refl, sym, ap, subst, arith, append_assoc, ◌∙◌, Option, Some, None}
use Rattle.std.specs.Prelude.{Any, filter, find, is_some, nat_le, option_map, option_and_then, unwrap_or}
use Rattle.std.specs.List.{list_all, list_any}
use Rattle.std.proofs.lemmas.Bool.{eq-eqb, eqb-true, ne_eqb, leb-true}
use Rattle.std.proofs.lemmas.Bool.Decides.{eqb_tells}
use Rattle.std.proofs.lemmas.List.{drop_more, drop_all, drop-drop, append-nil, at_drop_more, at_drop_all, length-take-le, length-map}
use Rattle.std.proofs.lemmas.List.Elements.{All-filter}
use Rattle.std.proofs.lemmas.List.Kept.{AllPairs-filter}
use Rattle.am_base.specs.declared.traps.TrapCause.{TrapCause}
use Rattle.byteorder.specs.Endian.{little_number}
use Rattle.rank_range.specs.Numbers.{number_at}
use Rattle.mpi_types.specs.Reduce.{elements_of}
use Rattle.rank_range.specs.Layout.{AllIn, Accessible, IsRange}
use Rattle.rank_range.specs.Areas.{Areas, areas_of, bytes_from, bytes_at, is_accessible}
use Rattle.rank_range.proofs.AccessLemmas.{from_length, tells_accessible, accessible_yes}
use Rattle.mpi_types.specs.declared.call.Write.{Write}
use Rattle.mpi_types.specs.declared.lists.BookLists.{BookLists}
use Rattle.mpi_types.specs.declared.lists.MatchedPair.{MatchedPair}
use Rattle.mpi_types.specs.declared.state.CompleteRequest.{CompleteRequest}
use Rattle.mpi_types.specs.declared.state.OwnData.{OwnData}
use Rattle.mpi_types.specs.declared.argument.Joined.{Joined}
use Rattle.mpi_types.specs.declared.argument.Sweep.{Sweep}
use Rattle.mpi_types.specs.declared.message.Message.{Message}
use Rattle.mpi_types.specs.declared.message.Posted.{Posted}
use Rattle.mpi_types.specs.Book.{IsLive}
use Rattle.mpi_rules.specs.declared.faults.Faults.{Faults}
use Rattle.mpi_rules.specs.Data.{MpiData, complete_of, pair_of, is_live, is_waiting, without, without_pair}
use Rattle.mpi_rules.specs.Faults.{cause_of}
use Rattle.mpi_rules.specs.Places.{is_open, read_at, are_open}
use Rattle.mpi_rules.specs.Reply.{no_faults}
use Rattle.mpi_rules.specs.Requests.{Came, came_without, empty_status, came_in, completion, came_of, is_request, ending, all_came, all_ending, all_writes, next_status, has_twice, variable_writes, came_writes}
use Rattle.mpi_call.specs.declared.requests.Sizes.{Sizes}
use Rattle.mpi_call.specs.Sizes.{sizes_of}
use Rattle.mpi_call.specs.Answers.{Kept, data_in, Took}
use Rattle.mpi_call.specs.Arrays.{status_at, EndsOne, EndsAll}
use Rattle.mpi_call.specs.Lawful.{AreApart}
use Rattle.mpi_call.proofs.LiveLemmas.{any_tested, tested_any, found_any}
use Rattle.mpi_call.proofs.EndLemmas.{came_open, both_open, variable_open}

-- ---- truth values

pub or_first : (a b : Bool) → (a || b) ≡ false → a ≡ false
or_first true b h = h
or_first false b h = refl

pub or_second : (a b : Bool) → (a || b) ≡ false → b ≡ false
or_second true b h = absurd cc
or_second false b h = h

pub and_first : (a b : Bool) → (a && b) ≡ true → a ≡ true
and_first true b h = refl
and_first false b h = h

pub and_second : (a b : Bool) → (a && b) ≡ true → b ≡ true
and_second true b h = h
and_second false b h = absurd cc

or_true_right : (a b : Bool) → b ≡ true → (a || b) ≡ true
or_true_right true b h = refl
or_true_right false b h = h

or_either : (a b c : Bool) → (b ≡ true → c ≡ true) → (a || b) ≡ true → (a || c) ≡ true
or_either true b c f h = refl
or_either false b c f h = f h

and_true_right : (a : Bool) → (a && true) ≡ a
and_true_right true = refl
and_true_right false = refl

-- ---- what is looked at first

abbrev faults_by : Bool → Bool → Bool → Faults
faults_by other variable request = record no_faults { other = other; variable = variable; request = request }

pub first_stops : (o v r : Bool) (why : TrapCause) → Some why ≡ cause_of (faults_by o v false) → Some why ≡ cause_of (faults_by o v r)
unfolding cause_of
first_stops true v r why h = h
first_stops false true r why h = h
first_stops false false r why h = absurd cc

pub first_passes : (o v r : Bool) (cause : Option TrapCause) → None ≡ cause_of (faults_by o v false) → cause ≡ cause_of (faults_by false false r)
    → cause ≡ cause_of (faults_by o v r)
unfolding cause_of
first_passes true v r cause h same = absurd cc
first_passes false true r cause h same = absurd cc
first_passes false false r cause h same = same

pub all_pass : (o v r : Bool) → None ≡ cause_of (faults_by o v r) → (o ≡ false) × (v ≡ false) × (r ≡ false)
unfolding cause_of
all_pass true v r h = absurd cc
all_pass false true r h = absurd cc
all_pass false false true h = absurd cc
all_pass false false false h = (refl, refl, refl)

-- ---- accessible bytes

some_if : (b : Bool) (xs : List ℕ) → is_some (cond b (Some xs) None) ≡ b
some_if true xs = refl
some_if false xs = refl

open_is : (rank top a n : ℕ) (bytes : List ℕ) → IsRange top bytes → is_open (areas_of rank top bytes) a n ≡ is_accessible rank top a n
unfolding is_open bytes_at is_accessible
open_is rank top a n bytes range =
    let there = bytes_from (areas_of rank top bytes) a in
    some_if (nat_le n (length there)) (take n there) ∙ ap (nat_le n) (from_length rank top a bytes range)

reached : (rank top a n : ℕ) (bytes : List ℕ) → IsRange top bytes → is_open (areas_of rank top bytes) a n ≡ true → Accessible rank top a n
reached rank top a n bytes range h = (tells_accessible rank top a n).0 (sym (open_is rank top a n bytes range) ∙ h)

opened : (rank top a n : ℕ) (bytes : List ℕ) → IsRange top bytes → Accessible rank top a n → is_open (areas_of rank top bytes) a n ≡ true
opened rank top a n bytes range h = open_is rank top a n bytes range ∙ accessible_yes rank top a n h

all_in_part : (start end a n at k : ℕ) → at + k ≤ n → AllIn start end a n → AllIn start end (a + at) k
all_in_part start end a n at k inside all i below =
    let here = all (at + i) (omega (arith, inside, below)) in
    let low = here.0 in
    let high = here.1 in
    (omega (arith, low), omega (arith, high))

-- a part of accessible bytes
pub part_open : (rank top a n at k : ℕ) (bytes : List ℕ) → IsRange top bytes → is_open (areas_of rank top bytes) a n ≡ true → at + k ≤ n
    → is_open (areas_of rank top bytes) (a + at) k ≡ true
part_open rank top a n at k bytes range h inside =
    opened rank top (a + at) k bytes range (elim (reached rank top a n bytes range h) [
      | inl here ↦ inl (all_in_part _ _ a n at k inside here)
      | inr (inl here) ↦ inr (inl (all_in_part _ _ a n at k inside here))
      | inr (inr here) ↦ inr (inr (all_in_part _ _ a n at k inside here))
    ])

ends_below : (start end a n : ℕ) → 0 < n → AllIn start end a n → a + n ≤ end
ends_below start end a n some all =
    let last = all (n - 1) (omega (arith, some)) in
    let high = last.1 in
    omega (arith, high, some)

-- addresses of accessible bytes are words
pub ends_within : (rank top a n : ℕ) (bytes : List ℕ) → rank < 2 ^ 16 → IsRange top bytes → is_open (areas_of rank top bytes) a n ≡ true → 0 < n
    → a + n ≤ 2 ^ 64
ends_within rank top a n bytes small range h some =
    let below = range.below in
    elim (reached rank top a n bytes range h) [
      | inl here ↦ (let e = ends_below _ _ a n some here in omega (arith, e, small))
      | inr (inl here) ↦ (let e = ends_below _ _ a n some here in omega (arith, e, small))
      | inr (inr here) ↦ (let e = ends_below _ _ a n some here in omega (arith, e, small, below))
    ]

-- ---- what all of them have

some_came : (o : Option Came) (p : Option (List Came)) (came : List Came) → option_and_then (λ c. option_map (λ more. c ∷ more) p) o ≡ Some came
    → (c : Came) × (rest : List Came) × (o ≡ Some c) × (p ≡ Some rest) × (came ≡ c ∷ rest)
some_came None p came h = absurd cc
some_came (Some c) None came h = absurd cc
some_came (Some c) (Some rest) came h = (c, rest, refl, refl, cc)

pub came_first : (mpi : MpiData) (n : ℕ) (numbers : List ℕ) (came : List Came) → all_came mpi (n ∷ numbers) ≡ Some came
    → (c : Came) × (rest : List Came) × (came_of mpi n ≡ Some c) × (all_came mpi numbers ≡ Some rest) × (came ≡ c ∷ rest)
came_first mpi n numbers came h = some_came (came_of mpi n) (all_came mpi numbers) came h

pub came_length : (mpi : MpiData) (numbers : List ℕ) (came : List Came) → all_came mpi numbers ≡ Some came → length came ≡ length numbers
came_length mpi [] came h = let none : came ≡ [] = cc in ap length none
came_length mpi (n ∷ numbers) came h =
    let first = came_first mpi n numbers came h in
    ap length first.4 ∙ ap suc (came_length mpi numbers first.1 first.3)

-- what is known without the bytes
pub there_came : (o : Option (List Came)) (all : List Sizes) → Some all ≡ option_map (map sizes_of) o
    → (came : List Came) × (o ≡ Some came) × (all ≡ map sizes_of came)
there_came None all h = absurd cc
there_came (Some came) all h = (came, refl, cc)

-- ---- what is written of them

next_place : (status : ℕ) → ((status ≡ 0) × (next_status status ≡ 0)) ⊎ (next_status status ≡ status + 16)
next_place status =
    elim (eqb_tells status 0) [
      | inl t ↦ inl (t.1, ap (λ (b : Bool). cond b 0 (status + 16)) t.0)
      | inr t ↦ inr (ap (λ (b : Bool). cond b 0 (status + 16)) t.0)
    ]

-- the places of the statuses are accessible, or statuses are ignored
abbrev pub StatusesOpen : Areas → ℕ → ℕ → Type 0
StatusesOpen areas status count = (status ≡ 0) ⊎ ((i : ℕ) → i < count → is_open areas (status + 16 * i) 16 ≡ true)

statuses_next : (areas : Areas) (status count : ℕ) → StatusesOpen areas status (suc count) → StatusesOpen areas (next_status status) count
statuses_next areas status count opens =
    elim (next_place status) [
      | inl none ↦ inl none.1
      | inr next ↦ elim opens [
        | inl none ↦ inl (ap next_status none)
        | inr each ↦ inr (λ i below.
            let place : status + 16 * (i + 1) ≡ next_status status + 16 * i = omega (arith, next) in
            subst (λ (a : ℕ). is_open areas a 16 ≡ true) place (each (i + 1) (omega (arith, below))))
      ]
    ]

status_first : (areas : Areas) (status count : ℕ) → StatusesOpen areas status (suc count) → (status == 0 || is_open areas status 16) ≡ true
status_first areas status count (inl none) = ap (λ (s : ℕ). s == 0 || is_open areas s 16) none
status_first areas status count (inr each) =
    let place : status + 16 * 0 ≡ status = omega arith in
    let opens : is_open areas status 16 ≡ true = subst (λ (a : ℕ). is_open areas a 16 ≡ true) place (each 0 (omega arith)) in
    or_true_right (status == 0) (is_open areas status 16) opens

-- where the variables and the statuses are accessible, the bodies decide
pub writes_open : (areas : Areas) (numbers : List ℕ) (came : List Came) (variable status : ℕ) → length came ≡ length numbers
    → ((i : ℕ) → i < length numbers → is_open areas (variable + 4 * i) 4 ≡ true) → StatusesOpen areas status (length numbers)
    → are_open areas (all_writes variable status numbers came) ≡ list_all (λ c. is_open areas c.buffer (length c.body)) came
writes_open areas [] [] variable status same variables statuses = refl
writes_open areas [] (c ∷ came) variable status same variables statuses = absurd (omega (arith, same))
writes_open areas (n ∷ numbers) [] variable status same variables statuses = absurd (omega (arith, same))
writes_open areas (n ∷ numbers) (c ∷ came) variable status same variables statuses =
    let place : variable + 4 * 0 ≡ variable = omega arith in
    let first : is_open areas variable 4 ≡ true = subst (λ (a : ℕ). is_open areas a 4 ≡ true) place (variables 0 (omega arith)) in
    let status_open = status_first areas status (length numbers) statuses in
    let body = is_open areas c.buffer (length c.body) in
    let rest = are_open areas (all_writes (variable + 4) (next_status status) numbers came) in
    both_open areas (came_writes c (variable_writes variable n) [] status) (all_writes (variable + 4) (next_status status) numbers came)
    ∙ ap (λ (b : Bool). b && rest)
    (came_open areas c (variable_writes variable n) [] status (variable_open areas variable n first)
    ∙ ap (λ (b : Bool). body && b) status_open ∙ and_true_right body)
    ∙ ap (λ (b : Bool). body && b) (writes_open areas numbers came (variable + 4) (next_status status) (omega (arith, same))
    (λ i below.
    let next : variable + 4 * (i + 1) ≡ variable + 4 + 4 * i = omega arith in
    subst (λ (a : ℕ). is_open areas a 4 ≡ true) next (variables (i + 1) (omega (arith, below))))
    (statuses_next areas status (length numbers) statuses))

-- ---- a request that ends tells nothing of the others

find_step : {X : Type 0} (test : X → Bool) (b c : Bool) (x : X) (xs kept_xs : List X) → test x ≡ c → (b ≡ true → c ≡ false)
    → find test kept_xs ≡ find test xs → find test (cond (not b) (x ∷ kept_xs) kept_xs) ≡ cond c (Some x) (find test xs)
find_step test true true x xs kept_xs is apart same = absurd (let e = apart refl in cc)
find_step test true false x xs kept_xs is apart same = same
find_step {X} test false c x xs kept_xs is apart same =
    ap (λ (b : Bool). cond b (Some x) (find test kept_xs)) is ∙ ap (λ (o : Option X). cond c (Some x) o) same

other_number : {X : Type 0} (f : X → ℕ) (x : X) (n m : ℕ) → (m ≡ n → ⊥) → (f x == n) ≡ true → (f x == m) ≡ false
other_number f x n m differs here = ne_eqb (f x) m (λ same. differs (sym same ∙ eqb-true (f x) n here))

find_kept : {X : Type 0} (f : X → ℕ) (xs : List X) (n m : ℕ) → (m ≡ n → ⊥)
    → find (λ x. f x == m) (filter (λ x. not (f x == n)) xs) ≡ find (λ x. f x == m) xs
find_kept f [] n m differs = refl
find_kept f (x ∷ xs) n m differs =
    find_step (λ y. f y == m) (f x == n) (f x == m) x xs (filter (λ y. not (f y == n)) xs) refl (other_number f x n m differs) (find_kept f xs n m differs)

abbrev came_in_by : Option CompleteRequest → Option MatchedPair → Option Came
came_in_by r p = came_in r p

completion_kept : (mpi : MpiData) (n m : ℕ) → (m ≡ n → ⊥) → completion (without n mpi) m ≡ completion mpi m
unfolding completion without
completion_kept mpi n m differs =
    ap (λ (o : Option CompleteRequest). came_in_by o (pair_of m (without_pair n mpi.matched))) (find_kept (λ r. r.number) mpi.own.complete n m differs)
    ∙ ap (came_in_by (complete_of m mpi.own.complete)) (find_kept (λ p. p.receive.request) mpi.matched n m differs)

live_kept : (mpi : MpiData) (n m : ℕ) → (m ≡ n → ⊥) → is_live (without n mpi) m ≡ is_live mpi m
unfolding is_live without
live_kept mpi n m differs =
    ap (λ (o : Option CompleteRequest). is_some o || (is_waiting m mpi.posted || is_some (pair_of m (without_pair n mpi.matched))))
    (find_kept (λ r. r.number) mpi.own.complete n m differs)
    ∙ ap (λ (o : Option MatchedPair). is_some (complete_of m mpi.own.complete) || (is_waiting m mpi.posted || is_some o))
    (find_kept (λ p. p.receive.request) mpi.matched n m differs)

-- the number ends, and isn't among these
abbrev IsOut : ℕ → List ℕ → Type 0
IsOut n numbers = (n ≡ 0) ⊎ (list_any (λ m. m == n) numbers ≡ false)

out_first : (n m : ℕ) (numbers : List ℕ) → IsOut n (m ∷ numbers) → (n ≡ 0) ⊎ (m ≡ n → ⊥)
out_first n m numbers (inl none) = inl none
out_first n m numbers (inr out) = inr (λ same. let e : (m == n) ≡ true = eq-eqb m n same in let f = or_first (m == n) _ out in cc)

out_rest : (n m : ℕ) (numbers : List ℕ) → IsOut n (m ∷ numbers) → IsOut n numbers
out_rest n m numbers (inl none) = inl none
out_rest n m numbers (inr out) = inr (or_second (m == n) _ out)

ending_none : (mpi : MpiData) (n : ℕ) → n ≡ 0 → ending n mpi ≡ mpi
ending_none mpi n none = ap (λ (b : Bool). cond b mpi (without n mpi)) (eq-eqb n 0 none)

abbrev by_number : {Y : Type 0} → (MpiData → ℕ → Y) → Y → MpiData → ℕ → Y
by_number f none mpi m = cond (m == 0) none (f mpi m)

ends_apart : {Y : Type 0} (f : MpiData → ℕ → Y) (none : Y) (mpi : MpiData) (n m : ℕ) → ((m ≡ n → ⊥) → f (without n mpi) m ≡ f mpi m)
    → (n ≡ 0) ⊎ (m ≡ n → ⊥) → by_number f none (ending n mpi) m ≡ by_number f none mpi m
ends_apart f none mpi n m stays (inl zero_n) = ap (λ (x : MpiData). by_number f none x m) (ending_none mpi n zero_n)
ends_apart {Y} f none mpi n m stays (inr differs) =
    elim (n == 0) as (λ b. by_number f none (cond b mpi (without n mpi)) m ≡ by_number f none mpi m)
    [ true ↦ refl | false ↦ ap (λ (y : Y). cond (m == 0) none y) (stays differs) ]

came_kept : (mpi : MpiData) (n m : ℕ) → (n ≡ 0) ⊎ (m ≡ n → ⊥) → came_of (ending n mpi) m ≡ came_of mpi m
came_kept mpi n m out = ends_apart completion (Some (came_without empty_status)) mpi n m (completion_kept mpi n m) out

or_is : (b c : Bool) → (b || c) ≡ cond b true c
or_is true c = refl
or_is false c = refl

request_kept : (mpi : MpiData) (n m : ℕ) → (n ≡ 0) ⊎ (m ≡ n → ⊥) → is_request (ending n mpi) m ≡ is_request mpi m
request_kept mpi n m out =
    or_is (m == 0) (is_live (ending n mpi) m) ∙ ends_apart is_live true mpi n m (live_kept mpi n m) out ∙ sym (or_is (m == 0) (is_live mpi m))

all_came_kept : (mpi : MpiData) (n : ℕ) (numbers : List ℕ) → IsOut n numbers → all_came (ending n mpi) numbers ≡ all_came mpi numbers
all_came_kept mpi n [] out = refl
all_came_kept mpi n (m ∷ numbers) out =
    ap (λ (o : Option Came). option_and_then (λ c. option_map (λ more. c ∷ more) (all_came (ending n mpi) numbers)) o) (came_kept mpi n m (out_first n m numbers out))
    ∙ ap (λ (p : Option (List Came)). option_and_then (λ c. option_map (λ more. c ∷ more) p) (came_of mpi m)) (all_came_kept mpi n numbers (out_rest n m numbers out))

requests_kept : (mpi : MpiData) (n : ℕ) (numbers : List ℕ) → IsOut n numbers → list_all (is_request (ending n mpi)) numbers ≡ list_all (is_request mpi) numbers
requests_kept mpi n [] out = refl
requests_kept mpi n (m ∷ numbers) out =
    ap (λ (b : Bool). b && list_all (is_request (ending n mpi)) numbers) (request_kept mpi n m (out_first n m numbers out))
    ∙ ap (λ (b : Bool). is_request mpi m && b) (requests_kept mpi n numbers (out_rest n m numbers out))

twice_out : (n : ℕ) (numbers : List ℕ) → has_twice (n ∷ numbers) ≡ false → IsOut n numbers
twice_out n numbers once =
    let first = or_first (not (n == 0) && list_any (λ m. m == n) numbers) (has_twice numbers) once in
    elim (eqb_tells n 0) [ inl t ↦ inl t.1 | inr t ↦ inr (sym (ap (λ (b : Bool). not b && list_any (λ m. m == n) numbers) t.0) ∙ first) ]

-- ---- the book stays apart from complete requests

any_step : {X : Type 0} (test : X → Bool) (keep : Bool) (x : X) (xs kept_xs : List X) → (list_any test kept_xs ≡ true → list_any test xs ≡ true)
    → list_any test (cond keep (x ∷ kept_xs) kept_xs) ≡ true → (test x || list_any test xs) ≡ true
any_step test false x xs kept_xs back h = or_true_right (test x) (list_any test xs) (back h)
any_step test true x xs kept_xs back h = or_either (test x) (list_any test kept_xs) (list_any test xs) back h

any_filter : {X : Type 0} (test keep : X → Bool) (xs : List X) → list_any test (filter keep xs) ≡ true → list_any test xs ≡ true
any_filter test keep [] h = h
any_filter test keep (x ∷ xs) h = any_step test (keep x) x xs (filter keep xs) (any_filter test keep xs) h

find_filter : {X : Type 0} (test keep : X → Bool) (xs : List X) → is_some (find test (filter keep xs)) ≡ true → is_some (find test xs) ≡ true
find_filter test keep xs h = found_any test xs ∙ any_filter test keep xs (sym (found_any test (filter keep xs)) ∙ h)

live_before : (posted_lists new : BookLists) (keep : MatchedPair → Bool) (m : ℕ) → new.posted ≡ posted_lists.posted
    → new.matched ≡ filter keep posted_lists.matched → IsLive new m → IsLive posted_lists m
live_before lists new keep m posted matched (inl waits) = inl (subst (λ (xs : List Posted). Any (λ q. q.request ≡ m) xs) posted waits)
live_before lists new keep m posted matched (inr pair) =
    inr (tested_any (λ p. p.receive.request) lists.matched m
    (any_filter (λ p. p.receive.request == m) keep lists.matched
    (any_tested (λ p. p.receive.request) (filter keep lists.matched) m (subst (λ (xs : List MatchedPair). Any (λ p. p.receive.request ≡ m) xs) matched pair))))

abbrev pub lists_with : MpiData → List Message → BookLists
lists_with mpi arrived = record { posted = mpi.posted; matched = mpi.matched; arrived = arrived }

pub apart_without : (k : Kept) (n : ℕ) (arrived : List Message) → AreApart k.own k.lists
    → AreApart (without n (data_in k)).own (lists_with (without n (data_in k)) arrived)
unfolding without
apart_without k n arrived apart =
    let keep : MatchedPair → Bool = λ p. not (p.receive.request == n) in
    let orderly = apart.orderly in
    record {
      orderly = record {
        posted_ascend = orderly.posted_ascend;
        matched_ascend = AllPairs-filter (λ lower higher. lower.receive.request < higher.receive.request) keep k.lists.matched orderly.matched_ascend;
        apart = λ i d below. All-filter keep (λ pair. (get_or k.lists.posted i d).request ≢ pair.receive.request) k.lists.matched (orderly.apart i d below);
      };
      apart = λ m some live.
          apart.apart m (find_filter (λ r. r.number == m) (λ r. not (r.number == n)) k.own.complete some)
          (live_before k.lists (lists_with (without n (data_in k)) arrived) keep m refl refl live);
    }

apart_ending : (k : Kept) (n : ℕ) → AreApart k.own k.lists → AreApart (ending n (data_in k)).own (lists_with (ending n (data_in k)) k.lists.arrived)
apart_ending k n apart =
    elim (n == 0) as (λ b. AreApart (cond b (data_in k) (without n (data_in k))).own (lists_with (cond b (data_in k) (without n (data_in k))) k.lists.arrived))
    [ true ↦ apart | false ↦ apart_without k n k.lists.arrived apart ]

pub apart_after : (c : Came) (n : ℕ) (body : List ℕ) (old new : Kept) → AreApart old.own old.lists → Took c (ending n (data_in old)) old body new
    → AreApart new.own new.lists
apart_after c n body old new apart took =
    subst (λ (own : OwnData). AreApart own new.lists) (sym took.own_is)
    (subst (λ (lists : BookLists). AreApart (ending n (data_in old)).own lists) (sym took.lists_are) (apart_ending old n apart))

joined_stays : (n : ℕ) (mpi : MpiData) → (ending n mpi).joined ≡ mpi.joined
unfolding without
joined_stays n mpi = elim (n == 0) as (λ b. (cond b mpi (without n mpi)).joined ≡ mpi.joined) [ true ↦ refl | false ↦ refl ]

abbrev data_with : OwnData → List Posted → List MatchedPair → Option Joined → MpiData
data_with own posted matched joined = record { own = own; posted = posted; matched = matched; joined = joined }

-- the data once a request has ended
data_after : (c : Came) (n : ℕ) (body : List ℕ) (old new : Kept) → Took c (ending n (data_in old)) old body new → data_in new ≡ ending n (data_in old)
data_after c n body old new took =
    let after = ending n (data_in old) in
    ap (λ (own : OwnData). data_with own new.lists.posted new.lists.matched new.sweep.joined) took.own_is
    ∙ ap (λ (lists : BookLists). data_with after.own lists.posted lists.matched new.sweep.joined) took.lists_are
    ∙ ap (λ (joined : Option Joined). data_with after.own after.posted after.matched joined)
    (ap (λ (s : Sweep). s.joined) took.sweep_is ∙ sym (joined_stays n (data_in old)))

-- ---- one after another

-- All but those that are left have ended.
pub record Ended (old new : Kept) (numbers left : List ℕ) (came : List Came) (sizes_left : List Sizes) (requests status variable place : ℕ) (writes : List Write)
    : Type 0 where
  pub rest : List Came
  pub data_is : all_ending left (data_in new) ≡ all_ending numbers (data_in old)
  pub arrived : new.lists.arrived ≡ old.lists.arrived
  pub sweep_is : new.sweep ≡ old.sweep
  pub apart : AreApart new.own new.lists
  pub came_is : all_came (data_in new) left ≡ Some rest
  pub sizes_are : sizes_left ≡ map sizes_of rest
  pub live : list_all (is_request (data_in new)) left ≡ true
  pub once : has_twice left ≡ false
  pub writes_are : writes ++ all_writes variable place left rest ≡ all_writes requests status numbers came

pub ended_none : (k : Kept) (numbers : List ℕ) (came : List Came) (all : List Sizes) (requests status variable place : ℕ) → AreApart k.own k.lists
    → list_all (is_request (data_in k)) numbers ≡ true → has_twice numbers ≡ false → all_came (data_in k) numbers ≡ Some came → all ≡ map sizes_of came
    → variable ≡ requests → place ≡ status → (writes : List Write) → writes ≡ [] → Ended k k numbers numbers came all requests status variable place writes
ended_none k numbers came all requests status variable place apart live once came_is sizes from at writes empty = record {
  rest = came;
  data_is = refl;
  arrived = refl;
  sweep_is = refl;
  apart = apart;
  came_is = came_is;
  sizes_are = sizes;
  live = live;
  once = once;
  writes_are =
      ap (λ (ws : List Write). ws ++ all_writes variable place numbers came) empty ∙ ap (λ (v : ℕ). all_writes v place numbers came) from ∙ ap (λ (p : ℕ). all_writes requests p numbers came) at;
}

-- what is known of the next one
pub record Next (k : Kept) (n : ℕ) (left : List ℕ) (s : Sizes) (sizes : List Sizes) (rest : List Came) : Type 0 where
  pub came : Came
  pub others : List Came
  pub came_is : came_of (data_in k) n ≡ Some came
  pub others_are : all_came (data_in k) left ≡ Some others
  pub rest_is : rest ≡ came ∷ others
  pub size : s ≡ sizes_of came
  pub sizes_are : sizes ≡ map sizes_of others
  pub live : is_request (data_in k) n ≡ true

pub next_of : (old new : Kept) (numbers left more : List ℕ) (n : ℕ) (came : List Came) (sizes_left sizes : List Sizes) (s : Sizes) (requests status variable place : ℕ)
    (writes : List Write) → left ≡ n ∷ more → sizes_left ≡ s ∷ sizes
    → (e : Ended old new numbers left came sizes_left requests status variable place writes) → Next new n more s sizes e.rest
next_of old new numbers left more n came sizes_left sizes s requests status variable place writes first known e =
    let found = came_first (data_in new) n more e.rest (ap (all_came (data_in new)) (sym first) ∙ e.came_is) in
    let all : s ∷ sizes ≡ sizes_of found.0 ∷ map sizes_of found.1 = sym known ∙ e.sizes_are ∙ ap (map sizes_of) found.4 in
    record {
      came = found.0;
      others = found.1;
      came_is = found.2;
      others_are = found.3;
      rest_is = found.4;
      size = cc (all);
      sizes_are = cc (all);
      live =
          and_first (is_request (data_in new) n) (list_all (is_request (data_in new)) more)
          (ap (list_all (is_request (data_in new))) (sym first) ∙ e.live);
    }

pub ended_more : (old mid new : Kept) (numbers left more : List ℕ) (n : ℕ) (came : List Came) (sizes_left sizes : List Sizes) (s : Sizes)
    (requests status variable place next_variable after_place : ℕ) (writes new_writes : List Write) → left ≡ n ∷ more → sizes_left ≡ s ∷ sizes
    → next_variable ≡ variable + 4 → after_place ≡ next_status place
    → Ended old mid numbers left came sizes_left requests status variable place writes
    → ((c : Came) → came_of (data_in mid) n ≡ Some c → s ≡ sizes_of c → EndsOne c n variable place mid new writes new_writes)
    → Ended old new numbers more came sizes requests status next_variable after_place new_writes
ended_more old mid new numbers left more n came sizes_left sizes s requests status variable place next_variable after_place writes new_writes first known step after e one =
    let next = next_of old mid numbers left more n came sizes_left sizes s requests status variable place writes first known e in
    let c = next.came in
    let ends = one c next.came_is next.size in
    let after_data = data_after c n ends.body mid new ends.took in
    let once : has_twice (n ∷ more) ≡ false = ap has_twice (sym first) ∙ e.once in
    let out = twice_out n more once in
    let live : list_all (is_request (data_in mid)) (n ∷ more) ≡ true = ap (list_all (is_request (data_in mid))) (sym first) ∙ e.live in
    let rest = all_writes (variable + 4) (next_status place) more next.others in
    record {
      rest = next.others;
      data_is =
          ap (all_ending more) after_data ∙ ap (λ (xs : List ℕ). all_ending xs (data_in mid)) (sym first) ∙ e.data_is;
      arrived = ap (λ (l : BookLists). l.arrived) ends.took.lists_are ∙ e.arrived;
      sweep_is = ends.took.sweep_is ∙ e.sweep_is;
      apart = apart_after c n ends.body mid new e.apart ends.took;
      came_is = ap (λ (mpi : MpiData). all_came mpi more) after_data ∙ all_came_kept (data_in mid) n more out ∙ next.others_are;
      sizes_are = next.sizes_are;
      live =
          ap (λ (mpi : MpiData). list_all (is_request mpi) more) after_data ∙ requests_kept (data_in mid) n more out
          ∙ and_second (is_request (data_in mid) n) (list_all (is_request (data_in mid)) more) live;
      once = or_second (not (n == 0) && list_any (λ m. m == n) more) (has_twice more) once;
      writes_are =
          ap (λ (ws : List Write). ws ++ all_writes next_variable after_place more next.others) ends.writes
          ∙ ap (λ (v : ℕ). (writes ++ came_writes c (variable_writes variable n) [] place) ++ all_writes v after_place more next.others) step
          ∙ ap (λ (p : ℕ). (writes ++ came_writes c (variable_writes variable n) [] place) ++ all_writes (variable + 4) p more next.others) after
          ∙ append_assoc writes (came_writes c (variable_writes variable n) [] place) rest
          ∙ ap (λ (xs : List Came). writes ++ all_writes variable place (n ∷ more) xs) (sym next.rest_is)
          ∙ ap (λ (xs : List ℕ). writes ++ all_writes variable place xs e.rest) (sym first)
          ∙ e.writes_are;
    }

pub ended_at : (old mid new : Kept) (numbers left more : List ℕ) (n : ℕ) (came : List Came) (sizes_left sizes : List Sizes) (s : Sizes)
    (requests status variable place p next_variable after_place : ℕ) (writes new_writes : List Write) → left ≡ n ∷ more → sizes_left ≡ s ∷ sizes
    → next_variable ≡ variable + 4 → after_place ≡ next_status place → p ≡ place
    → Ended old mid numbers left came sizes_left requests status variable place writes
    → ((c : Came) → came_of (data_in mid) n ≡ Some c → s ≡ sizes_of c → EndsOne c n variable p mid new writes new_writes)
    → Ended old new numbers more came sizes requests status next_variable after_place new_writes
ended_at old mid new numbers left more n came sizes_left sizes s requests status variable place p next_variable after_place writes new_writes first known step after at e one =
    ended_more old mid new numbers left more n came sizes_left sizes s requests status variable place next_variable after_place writes new_writes first known step after e
    (subst (λ (q : ℕ). (c : Came) → came_of (data_in mid) n ≡ Some c → s ≡ sizes_of c → EndsOne c n variable q mid new writes new_writes) at one)

pub ended_all : (old new : Kept) (numbers left : List ℕ) (came : List Came) (sizes : List Sizes) (requests status variable place : ℕ) (writes : List Write)
    → left ≡ [] → Ended old new numbers left came sizes requests status variable place writes → EndsAll numbers came requests status old new writes
ended_all old new numbers left came sizes requests status variable place writes none e = record {
  data_is = ap (λ (xs : List ℕ). all_ending xs (data_in new)) (sym none) ∙ e.data_is;
  arrived = e.arrived;
  sweep_is = e.sweep_is;
  writes_are =
      sym (append-nil writes) ∙ ap (λ (xs : List ℕ). writes ++ all_writes variable place xs e.rest) (sym none) ∙ e.writes_are;
}

-- ---- the numbers in an array's bytes

pub elements_start : (count : ℕ) (bytes : List ℕ) → [] ++ elements_of 4 (count - 0) (drop (4 * 0) bytes) ≡ elements_of 4 count bytes
elements_start count bytes =
    let same : count - 0 ≡ count = omega arith in ap (λ (n : ℕ). elements_of 4 n bytes) same

pub elements_more : (bytes numbers all : List ℕ) (count i x : ℕ) → i < count → x ≡ number_at bytes (4 * i) 4
    → numbers ++ elements_of 4 (count - i) (drop (4 * i) bytes) ≡ all
    → (numbers ++ x ∷ []) ++ elements_of 4 (count - (i + 1)) (drop (4 * (i + 1)) bytes) ≡ all
unfolding number_at
elements_more bytes numbers all count i x below is before =
    let left : count - i ≡ suc (count - (i + 1)) = omega (arith, below) in
    let at : 4 * (i + 1) ≡ 4 * i + 4 = omega arith in
    let rest = elements_of 4 (count - (i + 1)) (drop (4 * i + 4) bytes) in
    append_assoc numbers (x ∷ []) (elements_of 4 (count - (i + 1)) (drop (4 * (i + 1)) bytes))
    ∙ ap (λ (k : ℕ). numbers ++ x ∷ elements_of 4 (count - (i + 1)) (drop k bytes)) at
    ∙ ap (λ (y : ℕ). numbers ++ y ∷ rest) is
    ∙ ap (λ (xs : List ℕ). numbers ++ little_number 4 (drop (4 * i) bytes) ∷ elements_of 4 (count - (i + 1)) xs) (sym (drop-drop 4 (4 * i) bytes))
    ∙ ap (λ (k : ℕ). numbers ++ elements_of 4 k (drop (4 * i) bytes)) (sym left)
    ∙ before

pub elements_done : (bytes numbers all : List ℕ) (count i : ℕ) → count ≤ i → numbers ++ elements_of 4 (count - i) (drop (4 * i) bytes) ≡ all
    → numbers ≡ all
elements_done bytes numbers all count i past before =
    let none : count - i ≡ 0 = omega (arith, past) in
    sym (append-nil numbers) ∙ ap (λ (k : ℕ). numbers ++ elements_of 4 k (drop (4 * i) bytes)) (sym none) ∙ before

read_by : (b : Bool) (n : ℕ) (xs : List ℕ) → (b ≡ true → n ≤ length xs) → is_some (cond b (Some (take n xs)) None) ≡ true
    → length (unwrap_or (cond b (Some (take n xs)) None) []) ≡ n
read_by true n xs few there = length-take-le n xs (few refl)
read_by false n xs few there = absurd cc

pub read_length : (areas : Areas) (a n : ℕ) → is_open areas a n ≡ true → length (read_at areas a n) ≡ n
unfolding is_open read_at bytes_at
read_length areas a n opens =
    read_by (nat_le n (length (bytes_from areas a))) n (bytes_from areas a) (leb-true n (length (bytes_from areas a))) opens

-- ---- a test of all elements, one after another

pub all_step : {X : Type 0} (p : X → Bool) (xs : List X) (i : ℕ) (d : X) → i < length xs → p (get_or xs i d) ≡ true
    → list_all p (drop (i + 1) xs) ≡ list_all p (drop i xs)
all_step p xs i d below holds = sym (at_drop_more (list_all p) xs i d below ∙ ap (λ (b : Bool). b && list_all p (drop (i + 1) xs)) holds)

pub all_stop : {X : Type 0} (p : X → Bool) (xs : List X) (i : ℕ) (d : X) → i < length xs → p (get_or xs i d) ≡ false → list_all p (drop i xs) ≡ false
all_stop p xs i d below fails = at_drop_more (list_all p) xs i d below ∙ ap (λ (b : Bool). b && list_all p (drop (i + 1) xs)) fails

pub all_end : {X : Type 0} (p : X → Bool) (xs : List X) (i : ℕ) → length xs ≤ i → list_all p (drop i xs) ≡ true
all_end p xs i past = at_drop_all (list_all p) xs i past

pub all_each : {X : Type 0} (p : X → Bool) (xs : List X) (i : ℕ) (d : X) → i < length xs → list_all p xs ≡ true → p (get_or xs i d) ≡ true
all_each p [] i d below all = absurd (omega (arith, below))
all_each p (x ∷ xs) zero d below all = and_first (p x) (list_all p xs) all
all_each p (x ∷ xs) (suc i) d below all = all_each p xs i d (omega (arith, below)) (and_second (p x) (list_all p xs) all)

pub twice_step : (xs : List ℕ) (i : ℕ) → i < length xs → (not (get_or xs i 0 == 0) && list_any (λ m. m == get_or xs i 0) (drop (i + 1) xs)) ≡ false
    → has_twice (drop (i + 1) xs) ≡ has_twice (drop i xs)
twice_step xs i below fails = sym (at_drop_more has_twice xs i 0 below ∙ ap (λ (b : Bool). b || has_twice (drop (i + 1) xs)) fails)

pub twice_stop : (xs : List ℕ) (i : ℕ) → i < length xs → (not (get_or xs i 0 == 0) && list_any (λ m. m == get_or xs i 0) (drop (i + 1) xs)) ≡ true
    → has_twice (drop i xs) ≡ true
twice_stop xs i below holds = at_drop_more has_twice xs i 0 below ∙ ap (λ (b : Bool). b || has_twice (drop (i + 1) xs)) holds

pub twice_end : (xs : List ℕ) (i : ℕ) → length xs ≤ i → has_twice (drop i xs) ≡ false
twice_end xs i past = at_drop_all has_twice xs i past

-- ---- what all of them have, one after another

abbrev behind : List Sizes → List Came → List Sizes
behind all rest = all ++ map sizes_of rest

came_by : (o : Option Came) (p : Option (List Came)) (all : List Sizes) (s : Sizes) → Some s ≡ option_map sizes_of o
    → option_map (behind (all ++ s ∷ [])) p ≡ option_map (behind all) (option_and_then (λ c. option_map (λ more. c ∷ more) p) o)
came_by None p all s is = absurd cc
came_by (Some c) None all s is = refl
came_by (Some c) (Some rest) all s is =
    let same : s ≡ sizes_of c = cc (is) in
    ap Some (append_assoc all (s ∷ []) (map sizes_of rest) ∙ ap (λ (x : Sizes). all ++ x ∷ map sizes_of rest) same)

pub came_more : (mpi : MpiData) (numbers : List ℕ) (i d : ℕ) (all : List Sizes) (s : Sizes) → i < length numbers
    → Some s ≡ option_map sizes_of (came_of mpi (get_or numbers i d))
    → option_map (behind (all ++ s ∷ [])) (all_came mpi (drop (i + 1) numbers)) ≡ option_map (behind all) (all_came mpi (drop i numbers))
came_more mpi numbers i d all s below is =
    came_by (came_of mpi (get_or numbers i d)) (all_came mpi (drop (i + 1) numbers)) all s is
    ∙ ap (λ (xs : List ℕ). option_map (behind all) (all_came mpi xs)) (sym (drop_more numbers i d below))

none_by_none : (o : Option Came) (p : Option (List Came)) → None ≡ option_map sizes_of o → option_and_then (λ c. option_map (λ more. c ∷ more) p) o ≡ None
none_by_none None p is = refl
none_by_none (Some c) p is = absurd cc

pub came_none : (mpi : MpiData) (numbers : List ℕ) (i d : ℕ) → i < length numbers → None ≡ option_map sizes_of (came_of mpi (get_or numbers i d))
    → all_came mpi (drop i numbers) ≡ None
came_none mpi numbers i d below is =
    ap (all_came mpi) (drop_more numbers i d below) ∙ none_by_none (came_of mpi (get_or numbers i d)) (all_came mpi (drop (i + 1) numbers)) is

pub came_end : (mpi : MpiData) (numbers : List ℕ) (i : ℕ) (all : List Sizes) → length numbers ≤ i
    → Some all ≡ option_map (behind all) (all_came mpi (drop i numbers))
came_end mpi numbers i all past =
    ap Some (sym (append-nil all)) ∙ ap (λ (xs : List ℕ). option_map (behind all) (all_came mpi xs)) (sym (drop_all i numbers past))

-- ---- places of statuses

pub status_next : (status i : ℕ) → status_at status (i + 1) ≡ next_status (status_at status i)
status_next status i =
    elim (eqb_tells status 0) [
      | inl t ↦
          ap (λ (b : Bool). cond b 0 (status + 16 * (i + 1))) t.0
          ∙ sym (ap (λ (b : Bool). next_status (cond b 0 (status + 16 * i))) t.0)
      | inr t ↦
          let some : (status + 16 * i ≡ 0) → ⊥ = λ none. t.1 (omega (arith, none)) in
          let place : status + 16 * (i + 1) ≡ status + 16 * i + 16 = omega arith in
          ap (λ (b : Bool). cond b 0 (status + 16 * (i + 1))) t.0 ∙ place
          ∙ sym (ap (λ (b : Bool). cond b 0 (status + 16 * i + 16)) (ne_eqb (status + 16 * i) 0 some))
          ∙ sym (ap (λ (b : Bool). next_status (cond b 0 (status + 16 * i))) t.0)
    ]

pub status_start : (status : ℕ) → status_at status 0 ≡ status
status_start status =
    elim (eqb_tells status 0) [
      | inl t ↦ ap (λ (b : Bool). cond b 0 (status + 16 * 0)) t.0 ∙ sym t.1
      | inr t ↦ (let same : status + 16 * 0 ≡ status = omega arith in ap (λ (b : Bool). cond b 0 (status + 16 * 0)) t.0 ∙ same)
    ]

-- ---- the loops

pub elements_pushed : (bytes numbers new all : List ℕ) (count i x : ℕ) → new ≡ numbers ++ x ∷ [] → i < count → x ≡ number_at bytes (4 * i) 4
    → numbers ++ elements_of 4 (count - i) (drop (4 * i) bytes) ≡ all → new ++ elements_of 4 (count - (i + 1)) (drop (4 * (i + 1)) bytes) ≡ all
elements_pushed bytes numbers new all count i x pushed below is before =
    ap (λ (xs : List ℕ). xs ++ elements_of 4 (count - (i + 1)) (drop (4 * (i + 1)) bytes)) pushed ∙ elements_more bytes numbers all count i x below is before

pub sizes_all : (o : Option (List Came)) (all : List Sizes) (came : List Came) → Some all ≡ option_map (map sizes_of) o → o ≡ Some came → all ≡ map sizes_of came
sizes_all o all came h is = let e : Some all ≡ Some (map sizes_of came) = h ∙ ap (option_map (map sizes_of)) is in cc (e)

pub all_length : (mpi : MpiData) (numbers : List ℕ) (all : List Sizes) → Some all ≡ option_map (map sizes_of) (all_came mpi numbers)
    → length all ≡ length numbers
all_length mpi numbers all h =
    let there = there_came (all_came mpi numbers) all h in
    ap length there.2 ∙ length-map there.0 sizes_of ∙ came_length mpi numbers there.0 there.1

pub any_sizes : Sizes
any_sizes = sizes_of (came_without empty_status)

pub next_at : (old new : Kept) (numbers : List ℕ) (all : List Sizes) (came : List Came) (i d : ℕ) (s : Sizes) (requests status variable place : ℕ) (writes : List Write)
    → i < length numbers → length all ≡ length numbers
    → (e : Ended old new numbers (drop i numbers) came (drop i all) requests status variable place writes)
    → Next new (get_or numbers i d) (drop (i + 1) numbers) (get_or all i s) (drop (i + 1) all) e.rest
next_at old new numbers all came i d s requests status variable place writes below same e =
    next_of old new numbers (drop i numbers) (drop (i + 1) numbers) (get_or numbers i d) came (drop i all) (drop (i + 1) all) (get_or all i s) requests status variable place
    writes (drop_more numbers i d below) (drop_more all i s (omega (arith, below, same))) e

-- the bytes of an array end below the greatest address
product_some : (n size : ℕ) → 0 < size → 0 < suc n * size
product_some n size some = grind arith

product_same : (a b : ℕ) → a * b ≡ b * a
product_same a b = grind arith

pub array_fits : (rank top a n size : ℕ) (bytes : List ℕ) → rank < 2 ^ 16 → IsRange top bytes → a < 2 ^ 64 → 0 < size
    → is_open (areas_of rank top bytes) a (n * size) ≡ true → a + size * n ≤ 2 ^ 64
array_fits rank top a zero size bytes small range word some opens = omega (arith, word)
array_fits rank top a (suc n) size bytes small range word some opens =
    let e = ends_within rank top a (suc n * size) bytes small range opens (product_some n size some) in
    let same : size * suc n ≡ suc n * size = product_same size (suc n) in
    omega (arith, e, same)
