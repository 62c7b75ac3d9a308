-- The pair of a request in an orderly book, and the lists without a request.
use Rattle.std.proofs.Common.{◌≡◌, ℕ, zero, suc, ◌==◌, ◌<◌, Bool, true, false, cond, not, ◌⊎◌, inl, inr, List, [], ◌∷◌, ◌++◌, length, get_or, arith, refl, ap, sym, subst, ◌∙◌, Option, Some, None}
use Rattle.std.specs.Prelude.{Any, All, AllPairs, Contains, find, filter, is_some, option_map, IfSome}
use Rattle.std.proofs.lemmas.Bool.{eq-eqb, ne_eqb}
use Rattle.mpi_types.specs.declared.lists.BookLists.{BookLists}
use Rattle.mpi_types.specs.declared.lists.MatchedPair.{MatchedPair}
use Rattle.mpi_types.specs.declared.message.Message.{Message}
use Rattle.mpi_types.specs.declared.message.Posted.{Posted}
use Rattle.mpi_types.specs.Book.{IsOrderly, IsWaiting, IsMatched, IsReceiveOf, IsMessageOf}
use Rattle.mpi_types.specs.Post.{Ends}
use Rattle.mpi_types.proofs.ListLemmas.{AllPairs-head, AllPairs-tail, All-middle}
use Rattle.mpi_rules.specs.Data.{pair_of, without_pair}
use Rattle.mpi_rules.specs.Requests.{came_of_pair}
use Rattle.mpi_call.specs.declared.requests.Sizes.{Sizes}
use Rattle.mpi_call.specs.Sizes.{sizes_of}
use Rattle.mpi_call.proofs.LiveLemmas.{found_any, tested_any}
use Rattle.mpi_call.proofs.SizeLemmas.{all_front, all_rest}

-- numbers grow along the list
abbrev Ascends : {X : Type 0} → (X → ℕ) → List X → Type 0
Ascends f xs = AllPairs (λ a b. f a < f b) xs

-- ---- what is found

found_first : {X : Type 0} (b : Bool) (x : X) (o : Option X) → b ≡ true → cond b (Some x) o ≡ Some x
found_first true x o h = refl
found_first false x o h = absurd cc

found_later : {X : Type 0} (b : Bool) (x : X) (o : Option X) → b ≡ false → cond b (Some x) o ≡ o
found_later true x o h = absurd cc
found_later false x o h = refl

-- in an ascending list the one element of a number is found
pub found_is : {X : Type 0} (f : X → ℕ) (xs : List X) (n k : ℕ) (x : X) → Ascends f xs → k < length xs → get_or xs k x ≡ x → f x ≡ n
    → find (λ y. f y == n) xs ≡ Some x
found_is f [] n k x up below is number = absurd (omega arith)
found_is {X} f (y ∷ xs) n zero x up below is number =
    found_first (f y == n) y (find (λ z. f z == n) xs) (eq-eqb (f y) n (ap f is ∙ number)) ∙ ap (λ (z : X). Some z) is
found_is {X} f (y ∷ xs) n (suc k) x up below is number =
    let less : f y < f (get_or xs k x) = AllPairs-head (λ a b. f a < f b) y xs up k x (omega arith) in
    let differs : f y ≡ n → ⊥ = λ same. omega (arith, ap f is) in
    found_later (f y == n) y (find (λ z. f z == n) xs) (ne_eqb (f y) n differs)
    ∙ found_is f xs n k x (AllPairs-tail (λ a b. f a < f b) y xs up) (omega arith) is number

pub none_by : {X : Type 0} (o : Option X) → (is_some o ≡ true → ⊥) → o ≡ None
none_by None h = refl
none_by (Some x) h = absurd (h refl)

-- ---- without a number

-- what isn't found isn't taken away
pub none_filter : {X : Type 0} (test : X → Bool) (xs : List X) → find test xs ≡ None → filter (λ x. not (test x)) xs ≡ xs
none_filter test [] = λ h. refl
none_filter {X} test (x ∷ xs) =
    elim (test x) as (λ b. cond b (Some x) (find test xs) ≡ None → cond (not b) (x ∷ filter (λ y. not (test y)) xs) (filter (λ y. not (test y)) xs) ≡ x ∷ xs)
    [ true ↦ λ h. absurd cc | false ↦ λ h. ap (λ (ys : List X). x ∷ ys) (none_filter test xs h) ]

above_none : {X : Type 0} (f : X → ℕ) (xs : List X) (n : ℕ) → All (λ y. n < f y) xs → find (λ y. f y == n) xs ≡ None
above_none f [] n h = refl
above_none f (y ∷ xs) n h =
    let more : n < f y = all_front (λ z. n < f z) y xs h in
    let differs : f y ≡ n → ⊥ = λ same. omega arith in
    found_later (f y == n) y (find (λ z. f z == n) xs) (ne_eqb (f y) n differs) ∙ above_none f xs n (all_rest (λ z. n < f z) y xs h)

kept_by : {X : Type 0} (b : Bool) (x : X) (xs : List X) → b ≡ false → cond (not b) (x ∷ xs) xs ≡ x ∷ xs
kept_by true x xs h = absurd cc
kept_by false x xs h = refl

dropped_by : {X : Type 0} (b : Bool) (x : X) (xs : List X) → b ≡ true → cond (not b) (x ∷ xs) xs ≡ xs
dropped_by true x xs h = refl
dropped_by false x xs h = absurd cc

-- an ascending list without the one element of a number
pub filter_out : {X : Type 0} (f : X → ℕ) (lower : List X) (x : X) (higher : List X) (n : ℕ) → Ascends f (lower ++ x ∷ higher) → f x ≡ n
    → filter (λ y. not (f y == n)) (lower ++ x ∷ higher) ≡ lower ++ higher
filter_out {X} f [] x higher n up number =
    let above : All (λ y. n < f y) higher = subst (λ (m : ℕ). All (λ y. m < f y) higher) number (AllPairs-head (λ a b. f a < f b) x higher up) in
    dropped_by (f x == n) x (filter (λ y. not (f y == n)) higher) (eq-eqb (f x) n number)
    ∙ none_filter (λ y. f y == n) higher (above_none f higher n above)
filter_out {X} f (z ∷ lower) x higher n up number =
    let less : f z < f x = All-middle (λ y. f z < f y) lower x higher (AllPairs-head (λ a b. f a < f b) z (lower ++ x ∷ higher) up) in
    let differs : f z ≡ n → ⊥ = λ same. omega arith in
    kept_by (f z == n) z (filter (λ y. not (f y == n)) (lower ++ x ∷ higher)) (ne_eqb (f z) n differs)
    ∙ ap (λ (ys : List X). z ∷ ys) (filter_out f lower x higher n (AllPairs-tail (λ a b. f a < f b) z (lower ++ x ∷ higher) up) number)

-- the element of a number in the middle of an ascending list is found
pub found_middle : {X : Type 0} (f : X → ℕ) (lower : List X) (x : X) (higher : List X) (n : ℕ) → Ascends f (lower ++ x ∷ higher) → f x ≡ n
    → find (λ y. f y == n) (lower ++ x ∷ higher) ≡ Some x
found_middle f [] x higher n up number = found_first (f x == n) x (find (λ y. f y == n) higher) (eq-eqb (f x) n number)
found_middle f (z ∷ lower) x higher n up number =
    let less : f z < f x = All-middle (λ y. f z < f y) lower x higher (AllPairs-head (λ a b. f a < f b) z (lower ++ x ∷ higher) up) in
    let differs : f z ≡ n → ⊥ = λ same. omega arith in
    found_later (f z == n) z (find (λ y. f y == n) (lower ++ x ∷ higher)) (ne_eqb (f z) n differs)
    ∙ found_middle f lower x higher n (AllPairs-tail (λ a b. f a < f b) z (lower ++ x ∷ higher) up) number

-- ---- an orderly book

some_pair : (p q : MatchedPair) → Some p ≡ Some q → p ≡ q
some_pair p q h = cc

no_pair : (p : MatchedPair) → Some p ≡ None → ⊥
no_pair p h = cc

-- a request that waits has no message
pub waiting_none : (l : BookLists) (n : ℕ) → IsOrderly l → IsWaiting l n → pair_of n l.matched ≡ None
waiting_none l n order waits =
    none_by (pair_of n l.matched) (λ some.
    let pair : IsMatched l n = tested_any (λ p. p.receive.request) l.matched n (sym (found_any (λ p. p.receive.request == n) l.matched) ∙ some) in
    order.apart waits.0 waits.1 waits.2 pair.0 pair.1 pair.2
    (ap (λ (q : Posted). q.request) waits.3 ∙ (waits.4 ∙ (sym pair.4 ∙ ap (λ (p : MatchedPair). p.receive.request) (sym pair.3)))))

-- the message of a request, and its receive, are those of the pair that is found
pub message_found : (l : BookLists) (n : ℕ) (m : Message) → IsOrderly l → IsMessageOf l n m
    → (p : MatchedPair) × (pair_of n l.matched ≡ Some p) × (p.message ≡ m)
message_found l n m order is =
    (is.1, found_is (λ p. p.receive.request) l.matched n is.0 is.1 order.matched_ascend is.2 is.3 is.4.0, is.4.1)

receive_matched : (l : BookLists) (n : ℕ) (q : Posted) (p : MatchedPair) → IsOrderly l → q.request ≡ n → pair_of n l.matched ≡ Some p
    → Contains l.posted q ⊎ Any (λ pair. pair.receive ≡ q) l.matched → p.receive ≡ q
receive_matched l n q p order number found (inl posted) =
    let none : pair_of n l.matched ≡ None = waiting_none l n order (posted.0, q, posted.1, posted.2, number) in
    absurd (no_pair p (sym found ∙ none))
receive_matched l n q p order number found (inr matched) =
    let here : pair_of n l.matched ≡ Some matched.1 =
    found_is (λ x. x.receive.request) l.matched n matched.0 matched.1 order.matched_ascend matched.2 matched.3
    (ap (λ (x : Posted). x.request) matched.4 ∙ number) in
    ap (λ (x : MatchedPair). x.receive) (some_pair p matched.1 (sym found ∙ here)) ∙ matched.4

pub receive_found : (l : BookLists) (n : ℕ) (q : Posted) (p : MatchedPair) → IsOrderly l → IsReceiveOf l n q → pair_of n l.matched ≡ Some p
    → p.receive ≡ q
receive_found l n q p order is found = receive_matched l n q p order is.number found is.live

-- a request that ends: its pair was found, and is taken away
pub ends_found : (old : BookLists) (n : ℕ) (m : Message) (new : BookLists) → IsOrderly old → (e : Ends old n m new)
    → pair_of n old.matched ≡ Some (record { receive = e.receive; message = m })
ends_found old n m new order e =
    let pair : MatchedPair = record { receive = e.receive; message = m } in
    let up : Ascends (λ p. p.receive.request) (e.lower ++ pair ∷ e.higher) =
    subst (λ (ps : List MatchedPair). AllPairs (λ a b. a.receive.request < b.receive.request) ps) e.before order.matched_ascend in
    ap (λ (ps : List MatchedPair). pair_of n ps) e.before ∙ found_middle (λ p. p.receive.request) e.lower pair e.higher n up e.number

pub ends_without : (old : BookLists) (n : ℕ) (m : Message) (new : BookLists) → IsOrderly old → (e : Ends old n m new)
    → new ≡ record old { matched = without_pair n old.matched }
ends_without old n m new order e =
    let pair : MatchedPair = record { receive = e.receive; message = m } in
    let up : Ascends (λ p. p.receive.request) (e.lower ++ pair ∷ e.higher) =
    subst (λ (ps : List MatchedPair). AllPairs (λ a b. a.receive.request < b.receive.request) ps) e.before order.matched_ascend in
    e.now ∙ ap (λ (ps : List MatchedPair). record old { matched = ps })
    (sym (ap (without_pair n) e.before ∙ filter_out (λ p. p.receive.request) e.lower pair e.higher n up e.number))

-- ---- what a request of the book has

abbrev pair_with : Posted → Message → MatchedPair
pair_with q m = record { receive = q; message = m }

abbrev pub pair_sizes : MatchedPair → Sizes
pair_sizes p = sizes_of (came_of_pair p)

pub book_some : (l : BookLists) (n : ℕ) (m : Message) (q : Posted) (r : Sizes) → IsOrderly l → IsMessageOf l n m → IsReceiveOf l n q
    → r ≡ pair_sizes (record { receive = q; message = m }) → Some r ≡ option_map (λ p. sizes_of (came_of_pair p)) (pair_of n l.matched)
book_some l n m q r order told receive is =
    let found : (p : MatchedPair) × (pair_of n l.matched ≡ Some p) × (p.message ≡ m) = message_found l n m order told in
    let same : found.0.receive ≡ q = receive_found l n q found.0 order receive found.1 in
    let pair : pair_with q m ≡ found.0 =
    ap (λ (x : Posted). pair_with x m) (sym same) ∙ ap (λ (x : Message). pair_with found.0.receive x) (sym found.2) in
    ap (λ (x : Sizes). Some x) (is ∙ ap pair_sizes pair) ∙ sym (ap (option_map pair_sizes) found.1)

pub book_none : (l : BookLists) (n : ℕ) → IsOrderly l → IsWaiting l n → None ≡ option_map (λ p. sizes_of (came_of_pair p)) (pair_of n l.matched)
book_none l n order waits = sym (ap (option_map pair_sizes) (waiting_none l n order waits))

-- a request that ends in the book: the message's bytes
pub ended_body : (old : BookLists) (n : ℕ) (m : Message) (new : BookLists) (body : List ℕ) → IsOrderly old → Ends old n m new → body ≡ m.body
    → IfSome (pair_of n old.matched) (λ p. body ≡ p.message.body)
ended_body old n m new body order e is =
    subst (λ (o : Option MatchedPair). IfSome o (λ p. body ≡ p.message.body)) (sym (ends_found old n m new order e)) is

some_none : {X : Type 0} (o : Option X) → o ≡ None → is_some o ≡ true → ⊥
some_none None h some = cc
some_none (Some x) h some = cc

-- one that waits isn't one that has its message
pub not_waiting : (l : BookLists) (n : ℕ) → IsOrderly l → IsWaiting l n → is_some (pair_of n l.matched) ≡ true → ⊥
not_waiting l n order waits some = some_none (pair_of n l.matched) (waiting_none l n order waits) some
