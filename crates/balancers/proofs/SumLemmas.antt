-- Sums over lists, and lists whose elements differ.
use Rattle.std.proofs.Common.{◌≡◌, ℕ, suc, ◌+◌, ◌*◌, ◌<◌, ◌≤◌, ◌⊎◌, inl, inr, true, false, cond, List, [], ◌∷◌, length, map, get_or, take, refl, sym, ap, arith, length-take}
use Rattle.std.specs.Prelude.{nat_eq}
use Rattle.std.specs.List.{All, AllPairs, sum_by}
use Rattle.std.specs.List.Sorted.{IsPermutation}
use Rattle.std.proofs.lemmas.List.{get_or-take}
use Rattle.std.proofs.lemmas.List.Elements.{All-head, All-tail, All-nil, All-cons}
use Rattle.std.proofs.lemmas.List.Sums.{sum_by-cons, sum_by_more, sum_by-take-le, get_or-le-sum_by}
use Rattle.std.proofs.lemmas.List.Sorted.{sum_by-IsPermutation}
use Rattle.std.proofs.lemmas.Bool.{cases_Bool, eqb-true, eq-eqb, ne_eqb, cond-true, cond-false}
use Rattle.am_base.specs.declared.numbers.ProcId.{ProcId}
use Rattle.balancers.specs.declared.loads.Load.{Load}
use Rattle.balancers.specs.Loads.{AreByRank, greatest}
use Rattle.balancers.specs.Turns.{Ascend, AreDistinct}

pub sum_by-same : {X : Type 0} (f g : X → ℕ) (xs : List X) → All (λ x. f x ≡ g x) xs → sum_by f xs ≡ sum_by g xs
sum_by-same f g [] h = refl
sum_by-same f g (x ∷ xs) h =
    omega (arith, sum_by-cons f x xs, sum_by-cons g x xs, All-head (λ y. f y ≡ g y) x xs h, sum_by-same f g xs (All-tail (λ y. f y ≡ g y) x xs h))

pub sum_by-more : {X : Type 0} (f g : X → ℕ) (xs : List X) → All (λ x. f x ≤ g x) xs → sum_by f xs ≤ sum_by g xs
sum_by-more f g [] h = omega arith
sum_by-more f g (x ∷ xs) h =
    omega (arith, sum_by-cons f x xs, sum_by-cons g x xs, All-head (λ y. f y ≤ g y) x xs h, sum_by-more f g xs (All-tail (λ y. f y ≤ g y) x xs h))

pub sum_by-none : {X : Type 0} (f : X → ℕ) (xs : List X) → All (λ x. f x ≡ 0) xs → sum_by f xs ≡ 0
sum_by-none f [] h = refl
sum_by-none f (x ∷ xs) h =
    omega (arith, sum_by-cons f x xs, All-head (λ y. f y ≡ 0) x xs h, sum_by-none f xs (All-tail (λ y. f y ≡ 0) x xs h))

pub sum_by-plus : {X : Type 0} (f g : X → ℕ) (xs : List X) → sum_by (λ x. f x + g x) xs ≡ sum_by f xs + sum_by g xs
sum_by-plus f g [] = refl
sum_by-plus f g (x ∷ xs) =
    omega (arith, sum_by-cons f x xs, sum_by-cons g x xs, sum_by-cons (λ y. f y + g y) x xs, sum_by-plus f g xs)

pub sum_by-at_least : {X : Type 0} (f : X → ℕ) (m : ℕ) (xs : List X) → All (λ x. m ≤ f x) xs → length xs * m ≤ sum_by f xs
sum_by-at_least f m [] h = omega arith
sum_by-at_least f m (x ∷ xs) h =
    omega (arith, sum_by-cons f x xs, All-head (λ y. m ≤ f y) x xs h, sum_by-at_least f m xs (All-tail (λ y. m ≤ f y) x xs h))

pub all_pairs-tail : {X : Type 0} (R : X → X → Type 0) (x : X) (xs : List X) → AllPairs R (x ∷ xs) → AllPairs R xs
all_pairs-tail R x xs h = λ i j d below inside. h (suc i) (suc j) d (omega arith) (omega arith)

pub all_pairs-head : {X : Type 0} (R : X → X → Type 0) (x : X) (xs : List X) → AllPairs R (x ∷ xs) → All (λ y. R x y) xs
all_pairs-head R x xs h = λ j d inside. h 0 (suc j) d (omega arith) (omega arith)

-- the greatest of some numbers
pub greatest-below : {X : Type 0} (f : X → ℕ) (m b : ℕ) (xs : List X) → All (λ x. m * f x ≤ b) xs → m * greatest (map f xs) ≤ b
greatest-below f m b [] h = omega arith
greatest-below f m b (x ∷ xs) h =
    let here : m * f x ≤ b = All-head (λ y. m * f y ≤ b) x xs h in
    let rest : m * greatest (map f xs) ≤ b = greatest-below f m b xs (All-tail (λ y. m * f y ≤ b) x xs h) in
    grind arith

pub greatest-at_most : {X : Type 0} (f : X → ℕ) (b : ℕ) (xs : List X) → All (λ x. f x ≤ b) xs → greatest (map f xs) ≤ b
greatest-at_most f b [] h = omega arith
greatest-at_most f b (x ∷ xs) h =
    omega (arith, All-head (λ y. f y ≤ b) x xs h, greatest-at_most f b xs (All-tail (λ y. f y ≤ b) x xs h))

pub all-at_most_greatest : {X : Type 0} (f : X → ℕ) (b : ℕ) (xs : List X) → greatest (map f xs) ≤ b → All (λ x. f x ≤ b) xs
all-at_most_greatest f b [] h = All-nil (λ x. f x ≤ b)
all-at_most_greatest f b (x ∷ xs) h =
    All-cons (λ y. f y ≤ b) x xs (omega arith) (all-at_most_greatest f b xs (omega arith))

-- of processors that ascend, at most one is p
pub one_at_most : (live : List ProcId) (p : ProcId) (t : ℕ) → Ascend live → sum_by (λ q. cond (nat_eq p.0 q.0) t 0) live ≤ t
one_at_most [] p t up = omega arith
one_at_most (x ∷ live) p t up =
    let f : ProcId → ℕ = λ q. cond (nat_eq p.0 q.0) t 0 in
    let rest : sum_by f live ≤ t = one_at_most live p t (all_pairs-tail (λ a b. a.0 < b.0) x live up) in
    let cases : (nat_eq p.0 x.0 ≡ true) ⊎ (nat_eq p.0 x.0 ≡ false) = cases_Bool (nat_eq p.0 x.0) in
    elim cases [
      | inl e ↦
          let same : p.0 ≡ x.0 = eqb-true p.0 x.0 e in
          let above : All (λ q. x.0 < q.0) live = all_pairs-head (λ a b. a.0 < b.0) x live up in
          let none : All (λ q. f q ≡ 0) live =
          λ k d inside. cond-false {A = ℕ} (nat_eq p.0 (get_or live k d).0) t 0 (ne_eqb p.0 (get_or live k d).0 (λ h. absurd (omega (arith, above k d inside)))) in
          omega (arith, sum_by-cons f x live, sum_by-none f live none, cond-true {A = ℕ} (nat_eq p.0 x.0) t 0 e)
      | inr e ↦ omega (arith, sum_by-cons f x live, rest, cond-false {A = ℕ} (nat_eq p.0 x.0) t 0 e)
    ]

-- how often a rank stands in a list
abbrev pub times : ℕ → List Load → ℕ
times r loads = sum_by (λ l. cond (nat_eq l.rank.0 r) 1 0) loads

pub not_yet : (loads : List Load) (base r : ℕ) → ((k : ℕ) (d : Load) → k < length loads → (get_or loads k d).rank.0 ≡ base + k) → r < base → times r loads ≡ 0
not_yet loads base r h low =
    sum_by-none (λ l. cond (nat_eq l.rank.0 r) 1 0) loads
    (λ k d inside. cond-false {A = ℕ} (nat_eq (get_or loads k d).rank.0 r) 1 0 (ne_eqb (get_or loads k d).rank.0 r (λ e. absurd (omega (arith, h k d inside)))))

pub once_at_most : (loads : List Load) (base r : ℕ) → ((k : ℕ) (d : Load) → k < length loads → (get_or loads k d).rank.0 ≡ base + k) → times r loads ≤ 1
once_at_most [] base r h = omega arith
once_at_most (l ∷ loads) base r h =
    let f : Load → ℕ = λ m. cond (nat_eq m.rank.0 r) 1 0 in
    let later : (k : ℕ) (d : Load) → k < length loads → (get_or loads k d).rank.0 ≡ (base + 1) + k =
    λ k d inside. omega (arith, h (suc k) d (omega arith)) in
    let first : l.rank.0 ≡ base + 0 = h 0 l (omega arith) in
    let cases : (nat_eq l.rank.0 r ≡ true) ⊎ (nat_eq l.rank.0 r ≡ false) = cases_Bool (nat_eq l.rank.0 r) in
    elim cases [
      | inl e ↦
          let same : l.rank.0 ≡ r = eqb-true l.rank.0 r e in
          omega (arith, sum_by-cons f l loads, not_yet loads (base + 1) r later (omega arith), cond-true {A = ℕ} (nat_eq l.rank.0 r) 1 0 e)
      | inr e ↦ omega (arith, sum_by-cons f l loads, once_at_most loads (base + 1) r later, cond-false {A = ℕ} (nat_eq l.rank.0 r) 1 0 e)
    ]

pub distinct_from_times : (order : List Load) → ((r : ℕ) → times r order ≤ 1) → AreDistinct order
distinct_from_times order once = λ i j d below inside same.
    let r : ℕ = (get_or order i d).rank.0 in
    let f : Load → ℕ = λ l. cond (nat_eq l.rank.0 r) 1 0 in
    let at_j : f (get_or order j d) ≡ 1 = cond-true {A = ℕ} (nat_eq (get_or order j d).rank.0 r) 1 0 (eq-eqb (get_or order j d).rank.0 r (sym same)) in
    let at_i : f (get_or order i d) ≡ 1 = cond-true {A = ℕ} (nat_eq (get_or order i d).rank.0 r) 1 0 (eq-eqb r r refl) in
    let front : f (get_or (take j order) i d) ≤ sum_by f (take j order) = get_or-le-sum_by f (take j order) i d (omega (arith, length-take j order)) in
    let there : f (get_or (take j order) i d) ≡ f (get_or order i d) = ap f (get_or-take j order i d below) in
    absurd (omega (arith, sum_by_more f order j d inside, sum_by-take-le f order (j + 1), once r))

pub distinct_order : (loads order : List Load) → AreByRank loads → IsPermutation loads order → AreDistinct order
distinct_order loads order by_rank moved =
    distinct_from_times order
    (λ r. omega (arith, sum_by-IsPermutation (λ l. cond (nat_eq l.rank.0 r) 1 0) loads order moved, once_at_most loads 0 r (λ k d inside. omega (arith, by_rank k d inside))))
