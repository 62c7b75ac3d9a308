-- Which requests are live in a book's lists.
use Rattle.std.proofs.Common.{◌≡◌, ℕ, ◌==◌, Bool, true, false, cond, ◌||◌, ◌⊎◌, ◌↔◌, inl, inr, List, [], ◌∷◌, refl, sym, ◌∙◌, Option, Some, None}
use Rattle.std.specs.Prelude.{IsTrue, Any, find, is_some, option_map}
use Rattle.std.specs.List.{list_any}
use Rattle.std.proofs.lemmas.Bool.{eq-eqb, eqb-true}
use Rattle.std.proofs.lemmas.List.Folds.{Any-from_list_any, list_any-from_Any}
use Rattle.mpi_types.specs.declared.lists.BookLists.{BookLists}
use Rattle.mpi_types.specs.Book.{IsLive}
use Rattle.mpi_rules.specs.Data.{is_waiting, pair_of}

-- a number stands in a list just where the test finds it
pub any_tested : {X : Type 0} (f : X → ℕ) (xs : List X) (n : ℕ) → Any (λ x. f x ≡ n) xs → list_any (λ x. f x == n) xs ≡ true
any_tested {X} f xs n h =
    list_any-from_Any (λ x. f x == n) xs (h.0, h.1, h.2, h.3, eq-eqb (f h.1) n h.4)

pub tested_any : {X : Type 0} (f : X → ℕ) (xs : List X) (n : ℕ) → list_any (λ x. f x == n) xs ≡ true → Any (λ x. f x ≡ n) xs
tested_any {X} f xs n h =
    let found : Any (λ x. (f x == n) ≡ true) xs = Any-from_list_any (λ x. f x == n) xs h in
    (found.0, found.1, found.2, found.3, eqb-true (f found.1) n found.4)

pub found_any : {X : Type 0} (test : X → Bool) (xs : List X) → is_some (find test xs) ≡ list_any test xs
found_any test [] = refl
found_any {X} test (x ∷ xs) =
    elim (test x) as (λ b. is_some (cond b (Some x) (find test xs)) ≡ (b || list_any test xs)) [ true ↦ refl | false ↦ found_any test xs ]

pub or_true : (a b : Bool) → (a ≡ true) ⊎ (b ≡ true) → (a || b) ≡ true
or_true true b h = refl
or_true false true h = refl
or_true false false (inl h) = h
or_true false false (inr h) = h

pub true_or : (a b : Bool) → (a || b) ≡ true → (a ≡ true) ⊎ (b ≡ true)
true_or true b h = inl refl
true_or false b h = inr h

same_bool : (a b : Bool) → (a ≡ true → b ≡ true) → (b ≡ true → a ≡ true) → a ≡ b
same_bool true b f g = sym (f refl)
same_bool false true f g = g refl
same_bool false false f g = refl

-- The number is live in the book just where the test of the data says so.
pub live_tested : (l : BookLists) (n : ℕ) → IsLive l n → (is_waiting n l.posted || is_some (pair_of n l.matched)) ≡ true
live_tested l n (inl w) = or_true (is_waiting n l.posted) (is_some (pair_of n l.matched)) (inl (any_tested (λ q. q.request) l.posted n w))
live_tested l n (inr m) =
    or_true (is_waiting n l.posted) (is_some (pair_of n l.matched))
    (inr (found_any (λ p. p.receive.request == n) l.matched ∙ any_tested (λ p. p.receive.request) l.matched n m))

tested_live_by : (l : BookLists) (n : ℕ) → (is_waiting n l.posted ≡ true) ⊎ (is_some (pair_of n l.matched) ≡ true) → IsLive l n
tested_live_by l n (inl w) = inl (tested_any (λ q. q.request) l.posted n w)
tested_live_by l n (inr m) =
    inr (tested_any (λ p. p.receive.request) l.matched n (sym (found_any (λ p. p.receive.request == n) l.matched) ∙ m))

pub tested_live : (l : BookLists) (n : ℕ) → (is_waiting n l.posted || is_some (pair_of n l.matched)) ≡ true → IsLive l n
tested_live l n h = tested_live_by l n (true_or (is_waiting n l.posted) (is_some (pair_of n l.matched)) h)

pub live_told : (l : BookLists) (n : ℕ) (b : Bool) → IsTrue b ↔ IsLive l n → b ≡ (is_waiting n l.posted || is_some (pair_of n l.matched))
live_told l n b h =
    same_bool b (is_waiting n l.posted || is_some (pair_of n l.matched)) (λ is. live_tested l n (h.0 is)) (λ is. h.1 (tested_live l n is))

none_some : {Y : Type 0} (kind : Option Y) (y : Y) → kind ≡ Some y → is_some kind ≡ false → ⊥
none_some None y is empty = cc
none_some (Some z) y is empty = cc

-- no complete request has the number
pub none_or : {X Y : Type 0} (f : X → Y) (kind : Option Y) (o : Option X) (b c : Bool) → kind ≡ option_map f o → is_some kind ≡ false → b ≡ c
    → b ≡ (is_some o || c)
none_or f kind None b c is empty same = same
none_or f kind (Some x) b c is empty same = absurd (none_some kind (f x) is empty)

-- a live request that isn't complete is live in the book
pub live_in_book : {X Y : Type 0} (f : X → Y) (kind : Option Y) (o : Option X) (b : Bool) → kind ≡ option_map f o → kind ≡ None
    → (is_some o || b) ≡ true → b ≡ true
live_in_book f kind None b is none live = live
live_in_book f kind (Some x) b is none live = absurd cc
