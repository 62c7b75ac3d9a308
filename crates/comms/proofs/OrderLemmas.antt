-- A list has one order by keys and old numbers, and the sort by the pair of both gives it.
use Rattle.std.proofs.Common.{ℕ, ℤ, zero, suc, ◌≡◌, ◌≢◌, ◌+◌, ◌<◌, ◌≤◌, ◌⊎◌, inl, inr, Bool, true, false, cond, List, [], ◌∷◌, length, get_or, refl, sym, subst, ap, ◌∙◌, arith}
use Rattle.std.specs.Prelude.{All, AllPairs, Contains, IsPermutation, Some, slice_get, map, filter, int_lt, nat_lt, nat_eq, ◌<ℤ◌, take, sum_by}
use Rattle.std.specs.List.Sorted.{IsSortedBy}
use Rattle.std.specs.Ordering.{int_eq, is_lt, nat_cmp, int_cmp, ordering_then}
use Rattle.std.specs.declared.cmp.Ordering.{Ordering}
use Rattle.std.specs.declared.cmp.Ordering.TheVariants.{Less, Equal, Greater}
use Rattle.std.proofs.lemmas.Bool.{cases_Bool, eq-eqb, eqb-true, ne_eqb, cond-true, cond-false, ltb-false, true≢false, false_from_ne_true}
use Rattle.std.proofs.lemmas.Bool.Decides.{Decides-int_eq}
use Rattle.std.proofs.lemmas.Cmp.{nat_cmp_total, int_cmp_total, on_total, then_total}
use Rattle.std.specs.Cmp.{IsTotalOrder}
use Rattle.std.proofs.lemmas.Int.{ints}
use Rattle.std.proofs.lemmas.Option.{slice_get_read}
use Rattle.std.proofs.lemmas.List.{get_or_default, get_or-take, length-take}
use Rattle.std.proofs.lemmas.List.Elements.{All-contains, All-filter}
use Rattle.std.proofs.lemmas.List.Kept.{AllPairs-filter}
use Rattle.std.proofs.lemmas.List.Sorted.{sorted_far, ranks_by, IsPermutation-sym, All-permutation, Contains-permutation, sum_by-IsPermutation}
use Rattle.std.proofs.lemmas.List.Sums.{sum_by-cons, sum_by-le, get_or-le-sum_by, sum_by_more, sum_by-take-le}
use Rattle.am_base.specs.declared.numbers.RankId.{RankId}
use Rattle.mpi_types.specs.declared.context.Level.{Level}
use Rattle.mpi_types.specs.declared.group.Group.{Group}
use Rattle.mpi_types.specs.declared.group.SplitArg.{SplitArg}
use Rattle.mpi_types.specs.Groups.{ComesBefore, of_colour, IsInMemberOrder, IsOrderOf, child_of, rank_of, split_of}
use Rattle.mpi_types.specs.declared.constants.TheConstants.{UNDEFINED}
use Rattle.mpi_types.proofs.GroupLemmas.{splits_are_ordered}
use Rattle.mpi_types.proofs.ListLemmas.{AllPairs-head, AllPairs-tail}
use Rattle.comms.specs.Members.{AreOfMembers}

-- nothing comes before what comes before it
not_both : (a b : ℤ) → a <ℤ b → b <ℤ a → ⊥
not_both a b p q = grind (arith, ints)

not_itself : (a b : ℤ) → a <ℤ b → b ≡ a → ⊥
not_itself a b p q = grind (arith, ints)

one_way : (a b : SplitArg) → ComesBefore a b → ComesBefore b a → ⊥
one_way a b p q = apart p.by_key q.by_key
  where
    apart : (a.key <ℤ b.key) ⊎ ((a.key ≡ b.key) × (a.member < b.member)) → (b.key <ℤ a.key) ⊎ ((b.key ≡ a.key) × (b.member < a.member)) → ⊥
    apart (inl x) (inl y) = not_both a.key b.key x y
    apart (inl x) (inr y) = not_itself a.key b.key x y.0
    apart (inr x) (inl y) = not_itself b.key a.key y x.0
    apart (inr x) (inr y) = omega arith

cons_cases : (y : SplitArg) (ys : List SplitArg) (z : SplitArg) (k : ℕ) → k < length (y ∷ ys) → get_or (y ∷ ys) k z ≡ z → (y ≡ z) ⊎ Contains ys z
cons_cases y ys z zero within e = inl e
cons_cases y ys z (suc k) within e = inr (k, omega arith, e)

Contains-cases : (y : SplitArg) (ys : List SplitArg) (z : SplitArg) → Contains (y ∷ ys) z → (y ≡ z) ⊎ Contains ys z
Contains-cases y ys z c = cons_cases y ys z c.0 c.1 c.2

Contains-here : (y : SplitArg) (ys : List SplitArg) → Contains (y ∷ ys) y
Contains-here y ys = (0, omega arith, refl)

Contains-there : (y : SplitArg) (ys : List SplitArg) (z : SplitArg) → Contains ys z → Contains (y ∷ ys) z
Contains-there y ys z c = (suc c.0, omega (arith, c.1), c.2)

-- the first elements of two ordered lists of the same elements
same_first : (x : SplitArg) (xs : List SplitArg) (y : SplitArg) (ys : List SplitArg) → AllPairs ComesBefore (x ∷ xs) → AllPairs ComesBefore (y ∷ ys)
    → Contains (y ∷ ys) x → Contains (x ∷ xs) y → x ≡ y
same_first x xs y ys h k there here = elim (Contains-cases y ys x there) [
  | inl e ↦ sym e
  | inr in_ys ↦ elim (Contains-cases x xs y here) [
    | inl e ↦ e
    | inr in_xs ↦ absurd (one_way x y
        (All-contains (ComesBefore x) xs y (AllPairs-head ComesBefore x xs h) in_xs)
        (All-contains (ComesBefore y) ys x (AllPairs-head ComesBefore y ys k) in_ys))
  ]
]

-- what stands in the rest of an ordered list stands in the rest of the other
in_rest : (x : SplitArg) (xs : List SplitArg) (y : SplitArg) (ys : List SplitArg) → AllPairs ComesBefore (x ∷ xs) → x ≡ y
    → (z : SplitArg) → Contains xs z → Contains (y ∷ ys) z → Contains ys z
in_rest x xs y ys h e z inside there = elim (Contains-cases y ys z there) [
  | inl same ↦
      let P : SplitArg → Type 0 = λ w. ComesBefore x w in
      let before : ComesBefore x z = All-contains (ComesBefore x) xs z (AllPairs-head ComesBefore x xs h) inside in
      let itself : ComesBefore x x = subst P (sym (e ∙ same)) before in
      absurd (one_way x x itself itself)
  | inr c ↦ c
]

-- two ordered lists of the same elements are one
same_order : (xs ys : List SplitArg) → AllPairs ComesBefore xs → AllPairs ComesBefore ys
    → ((z : SplitArg) → Contains xs z → Contains ys z) → ((z : SplitArg) → Contains ys z → Contains xs z) → xs ≡ ys
same_order [] [] h k to back = refl
same_order [] (y ∷ ys) h k to back = let none = back y (Contains-here y ys) in absurd (omega (arith, none.1))
same_order (x ∷ xs) [] h k to back = let none = to x (Contains-here x xs) in absurd (omega (arith, none.1))
same_order (x ∷ xs) (y ∷ ys) h k to back =
    let first : x ≡ y = same_first x xs y ys h k (to x (Contains-here x xs)) (back y (Contains-here y ys)) in
    let rest : xs ≡ ys =
    same_order xs ys (AllPairs-tail ComesBefore x xs h) (AllPairs-tail ComesBefore y ys k)
    (λ z c. in_rest x xs y ys h first z c (to z (Contains-there x xs z c)))
    (λ z c. in_rest y ys x xs k (sym first) z c (back z (Contains-there y ys z c))) in
    cc

-- how often a member's number stands in a list
abbrev times : ℕ → List SplitArg → ℕ
times r list = sum_by (λ a. cond (nat_eq a.member r) 1 0) list

once_at_most : (list : List SplitArg) (r : ℕ) → IsInMemberOrder list → times r list ≤ 1
once_at_most [] r h = omega arith
once_at_most (a ∷ list) r h =
    let f : SplitArg → ℕ = λ b. cond (nat_eq b.member r) 1 0 in
    let above : All (λ b. a.member < b.member) list = AllPairs-head (λ x y. x.member < y.member) a list h in
    let rest : times r list ≤ 1 = once_at_most list r (AllPairs-tail (λ x y. x.member < y.member) a list h) in
    elim (cases_Bool (nat_eq a.member r)) [
      | inl e ↦
          let same : a.member ≡ r = eqb-true a.member r e in
          let none : All (λ b. f b ≤ 0) list = λ k d inside.
          let other : f (get_or list k d) ≡ 0 = cond-false {A = ℕ} (nat_eq (get_or list k d).member r) 1 0
          (ne_eqb (get_or list k d).member r (λ q. absurd (omega (arith, above k d inside)))) in
          omega arith in
          omega (arith, sum_by-cons f a list, sum_by-le f 0 list none, cond-true {A = ℕ} (nat_eq a.member r) 1 0 e)
      | inr e ↦ omega (arith, sum_by-cons f a list, rest, cond-false {A = ℕ} (nat_eq a.member r) 1 0 e)
    ]

distinct : (list : List SplitArg) → ((r : ℕ) → times r list ≤ 1) → AllPairs (λ a b. a.member ≢ b.member) list
distinct list once = λ i j d below inside same.
    let r : ℕ = (get_or list i d).member in
    let f : SplitArg → ℕ = λ a. cond (nat_eq a.member r) 1 0 in
    let at_j : f (get_or list j d) ≡ 1 = cond-true {A = ℕ} (nat_eq (get_or list j d).member r) 1 0 (eq-eqb (get_or list j d).member r (sym same)) in
    let at_i : f (get_or list i d) ≡ 1 = cond-true {A = ℕ} (nat_eq (get_or list i d).member r) 1 0 (eq-eqb r r refl) in
    let front : f (get_or (take j list) i d) ≤ sum_by f (take j list) = get_or-le-sum_by f (take j list) i d (omega (arith, length-take j list)) in
    let there : f (get_or (take j list) i d) ≡ f (get_or list i d) = ap f (get_or-take j list i d below) in
    omega (arith, sum_by_more f list j d inside, sum_by-take-le f list (j + 1), once r)

-- what is so where the first of two pairs of comparisons doesn't say less
then_not_less : (p q r s : Bool) → is_lt (ordering_then (cond p Less (cond q Greater Equal)) (cond r Less (cond s Equal Greater))) ≡ false
    → (p ≡ false) × ((q ≡ true) ⊎ (r ≡ false))
then_not_less true q r s e = absurd (true≢false e)
then_not_less false true r s e = (refl, inl refl)
then_not_less false false true s e = absurd (true≢false e)
then_not_less false false false s e = (refl, inr refl)

-- the order that the sort is by
abbrev pub key_of : SplitArg → ℤ × ℕ
key_of a = (a.key, a.member)

abbrev pub split_cmp : SplitArg → SplitArg → Ordering
split_cmp a b = ordering_then (int_cmp a.key b.key) (nat_cmp a.member b.member)

split_cmp_total : IsTotalOrder split_cmp
split_cmp_total =
    then_total {R = λ a b. int_cmp a.key b.key} {S = λ a b. nat_cmp a.member b.member}
    (on_total {K = SplitArg} (λ a. a.key) int_cmp_total) (on_total {K = SplitArg} (λ a. a.member) nat_cmp_total)

keys_meet : (a b : ℤ) → int_lt a b ≡ false → int_lt b a ≡ false → a ≡ b
keys_meet a b p q = grind (arith, ints)

key_less : (a b : ℤ) → int_lt a b ≡ true → a <ℤ b
key_less a b e = grind (arith, ints)

not_behind : (a b : SplitArg) → is_lt (split_cmp b a) ≡ false → a.member ≢ b.member → ComesBefore a b
not_behind a b e other =
    let parts = then_not_less (int_lt b.key a.key) (int_lt a.key b.key) (nat_lt b.member a.member) (nat_eq b.member a.member) e in
    record {
      by_key = elim parts.1 [
        | inl less ↦ inl (key_less a.key b.key less)
        | inr least ↦ elim (cases_Bool (int_lt a.key b.key)) [
          | inl less ↦ inl (key_less a.key b.key less)
          | inr more ↦
              let below : a.member ≤ b.member = ltb-false b.member a.member least in
              inr (keys_meet a.key b.key more parts.0, omega arith)
        ]
      ];
    }

sorted_comes : (list : List SplitArg) → IsSortedBy (λ a b. is_lt (split_cmp a b)) list → AllPairs (λ a b. a.member ≢ b.member) list
    → AllPairs ComesBefore list
sorted_comes list up apart = λ i j d below inside.
    let far : is_lt (split_cmp (get_or list j d) (get_or list i d)) ≡ false =
    sorted_far (λ a b. is_lt (split_cmp a b)) (ranks_by split_cmp_total (λ (a : SplitArg). a)) list up i j d (omega arith) inside in
    not_behind (get_or list i d) (get_or list j d) far (apart i j d below inside)

-- the sort of what the members of a colour give is their new order
pub new_order_is : (colour : ℤ) (list sorted : List SplitArg) → IsInMemberOrder list
    → IsPermutation (filter (λ a. int_eq a.colour colour) list) sorted → IsSortedBy (λ a b. is_lt (split_cmp a b)) sorted
    → sorted ≡ of_colour colour list
new_order_is colour list sorted in_order moved up =
    let chosen : List SplitArg = filter (λ a. int_eq a.colour colour) list in
    let still : IsInMemberOrder chosen = AllPairs-filter (λ x y. x.member < y.member) (λ a. int_eq a.colour colour) list in_order in
    let apart : AllPairs (λ a b. a.member ≢ b.member) sorted = distinct sorted
    (λ r. omega (arith, sum_by-IsPermutation (λ a. cond (nat_eq a.member r) 1 0) chosen sorted moved, once_at_most chosen r still)) in
    let law : IsOrderOf chosen (of_colour colour list) = splits_are_ordered list colour in_order in
    same_order sorted (of_colour colour list) (sorted_comes sorted up apart) law.in_order
    (λ z c. Contains-permutation chosen (of_colour colour list) z (IsPermutation-sym (of_colour colour list) chosen law.same_members)
    (Contains-permutation sorted chosen z (IsPermutation-sym chosen sorted moved) c))
    (λ z c. Contains-permutation chosen sorted z moved (Contains-permutation (of_colour colour list) chosen z law.same_members c))

pub members_in_order : (g : Group) (list : List SplitArg) → AreOfMembers g list → IsInMemberOrder list
members_in_order g list are = λ i j d below inside. omega (arith, are.in_order i d (omega arith), are.in_order j d inside)

pub members_within : (g : Group) (list : List SplitArg) (colour : ℤ) → AreOfMembers g list
    → All (λ a. a.member < length g.members) (of_colour colour list)
members_within g list colour are =
    let within : All (λ a. a.member < length g.members) list = λ k d inside. omega (arith, are.in_order k d inside, are.one_each) in
    let chosen : List SplitArg = filter (λ a. int_eq a.colour colour) list in
    let law : IsOrderOf chosen (of_colour colour list) = splits_are_ordered list colour (members_in_order g list are) in
    All-permutation (λ a. a.member < length g.members) chosen (of_colour colour list)
    (IsPermutation-sym (of_colour colour list) chosen law.same_members)
    (All-filter (λ a. int_eq a.colour colour) (λ a. a.member < length g.members) list within)

-- what a split gives to a member that has a colour
split_is : (g : Group) (position : ℕ) (list : List SplitArg) (me : ℕ) (own : SplitArg) → me < length list → own ≡ get_or list me own
    → int_eq own.colour UNDEFINED ≡ false
    → split_of g position list me
    ≡ Some (record { ctx = child_of g.ctx position own.colour; members = map (λ a. rank_of g a.member) (of_colour own.colour list) })
split_is g position list me own within is has =
    let there : slice_get list me ≡ Some own = slice_get_read list (length list) me own refl within is in
    rw there (rw has refl)

group_same : (g : Group) (position : ℕ) (list : List SplitArg) (colour own : ℤ) (ctx : List Level) (members : List RankId) (chosen : List SplitArg)
    → colour ≡ own → ctx ≡ child_of g.ctx position colour → members ≡ map (λ a. rank_of g a.member) chosen → chosen ≡ of_colour colour list
    → (let made : Group = record { ctx = ctx; members = members } in made)
    ≡ record { ctx = child_of g.ctx position own; members = map (λ a. rank_of g a.member) (of_colour own list) }
group_same g position list colour own ctx members chosen is path ranks order =
    let P : ℤ → Type 0 = λ k. (let made : Group = record { ctx = ctx; members = members } in made)
    ≡ record { ctx = child_of g.ctx position k; members = map (λ a. rank_of g a.member) (of_colour k list) } in
    subst P is (rw (path, ranks, order) refl)

-- a group with this context and these members is what the split gives
pub split_result : (g : Group) (position : ℕ) (list : List SplitArg) (me at : ℕ) (d : SplitArg) (colour : ℤ) (ctx : List Level) (members : List RankId) (chosen : List SplitArg)
    → me < length list → at ≡ me → colour ≡ (get_or list at d).colour → colour ≢ UNDEFINED → ctx ≡ child_of g.ctx position colour
    → members ≡ map (λ a. rank_of g a.member) chosen → chosen ≡ of_colour colour list
    → (let made : Group = record { ctx = ctx; members = members } in Some made) ≡ split_of g position list me
split_result g position list me at d colour ctx members chosen within same is has path ranks order =
    let own : SplitArg = get_or list me d in
    let own_colour : colour ≡ own.colour = is ∙ ap (λ k. (get_or list k d).colour) same in
    let tested : int_eq own.colour UNDEFINED ≡ false =
    false_from_ne_true (int_eq own.colour UNDEFINED) (λ e. has (own_colour ∙ (Decides-int_eq own.colour UNDEFINED).0 e)) in
    let left : (let made : Group = record { ctx = ctx; members = members } in made)
    ≡ record { ctx = child_of g.ctx position own.colour; members = map (λ a. rank_of g a.member) (of_colour own.colour list) } =
    group_same g position list colour own.colour ctx members chosen own_colour path ranks order in
    ap Some left ∙ sym (split_is g position list me own within (get_or_default list me d own within) tested)
