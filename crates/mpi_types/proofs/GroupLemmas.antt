-- The order in which a split puts members.
use Rattle.std.proofs.Common.{ℤ, ◌≡◌, ◌≢◌, ◌<◌, ◌⊎◌, inl, inr, ◌&&◌, true, false, List, [], ◌∷◌, sym, subst, ◌∙◌, arith}
use Rattle.std.specs.Prelude.{All, AllPairs, IsPermutation, filter, int_lt, nat_lt, ◌<ℤ◌}
use Rattle.std.specs.Ordering.{int_eq}
use Rattle.std.proofs.lemmas.Bool.{cases_Bool, or_cases, or_parts, and_parts, and_cases, ltb-true, lt-ltb, true≢false}
use Rattle.std.proofs.lemmas.Bool.Decides.{Decides-int_eq}
use Rattle.std.proofs.lemmas.Int.{ints}
use Rattle.std.proofs.lemmas.List.Elements.{All-nil, All-cons, All-head, All-tail, All-weaker}
use Rattle.std.proofs.lemmas.List.Kept.{AllPairs-cons, AllPairs-filter}
use Rattle.std.proofs.lemmas.List.Sorted.{IsPermutation-refl, IsPermutation-sym, IsPermutation-cons, IsPermutation-trans, IsPermutation-middle, All-permutation}
use Rattle.mpi_types.specs.declared.group.SplitArg.{SplitArg}
use Rattle.mpi_types.specs.Groups.{ComesBefore, comes_before, put_in, ordered, IsInMemberOrder, SplitsAreOrdered}
use Rattle.mpi_types.proofs.ListLemmas.{AllPairs-head, AllPairs-tail}

less_true : (a b : ℤ) → int_lt a b ≡ true → a <ℤ b
less_true a b e = grind (arith, ints)

less_false : (a b : ℤ) → int_lt a b ≡ false → a ≢ b → b <ℤ a
less_false a b e other = grind (arith, ints)

less_trans : (a b c : ℤ) → a <ℤ b → b <ℤ c → a <ℤ c
less_trans a b c p q = grind (arith, ints)

before_trans : (a b c : SplitArg) → ComesBefore a b → ComesBefore b c → ComesBefore a c
before_trans a b c p q = record { by_key = joined p.by_key q.by_key }
  where
    joined : (a.key <ℤ b.key) ⊎ ((a.key ≡ b.key) × (a.member < b.member)) → (b.key <ℤ c.key) ⊎ ((b.key ≡ c.key) × (b.member < c.member))
        → (a.key <ℤ c.key) ⊎ ((a.key ≡ c.key) × (a.member < c.member))
    joined (inl x) (inl y) = inl (less_trans a.key b.key c.key x y)
    joined (inl x) (inr y) = inl (subst (λ k. a.key <ℤ k) y.0 x)
    joined (inr x) (inl y) = inl (subst (λ k. k <ℤ c.key) (sym x.0) y)
    joined (inr x) (inr y) = inr (x.0 ∙ y.0, omega arith)

-- what the test tells
before_true : (a b : SplitArg) → comes_before a b ≡ true → ComesBefore a b
before_true a b e = record {
  by_key = elim (or_cases (int_lt a.key b.key) (int_eq a.key b.key && nat_lt a.member b.member) e) [
    | inl less ↦ inl (less_true a.key b.key less)
    | inr both ↦
        let parts = and_parts (int_eq a.key b.key) (nat_lt a.member b.member) both in
        inr ((Decides-int_eq a.key b.key).0 parts.0, ltb-true a.member b.member parts.1)
  ];
}

before_false : (a b : SplitArg) → comes_before a b ≡ false → a.member < b.member → ComesBefore b a
before_false a b e low =
    let parts = or_parts (int_lt a.key b.key) (int_eq a.key b.key && nat_lt a.member b.member) e in
    let other : int_eq a.key b.key ≡ false =
    elim (and_cases (int_eq a.key b.key) (nat_lt a.member b.member) parts.1) [
      | inl f ↦ f
      | inr f ↦ absurd (true≢false (sym (lt-ltb a.member b.member low) ∙ f))
    ] in
    record {
      by_key = inl (less_false a.key b.key parts.0
          (λ same. true≢false (sym ((Decides-int_eq a.key b.key).1 same) ∙ other)));
    }

-- one more in its place
put_permutes : (a : SplitArg) (list : List SplitArg) → IsPermutation (put_in a list) (a ∷ list)
put_permutes a [] = IsPermutation-refl (a ∷ [])
put_permutes a (b ∷ list) = elim (cases_Bool (comes_before a b)) [
  | inl t ↦ rw t (IsPermutation-refl (a ∷ b ∷ list))
  | inr f ↦ rw f
      (IsPermutation-trans (b ∷ put_in a list) (b ∷ a ∷ list) (a ∷ b ∷ list)
      (IsPermutation-cons b (put_in a list) (a ∷ list) (put_permutes a list)) (IsPermutation-middle (b ∷ []) a list))
]

ordered_permutes : (list : List SplitArg) → IsPermutation (ordered list) list
ordered_permutes [] = IsPermutation-refl []
ordered_permutes (a ∷ list) =
    IsPermutation-trans (put_in a (ordered list)) (a ∷ ordered list) (a ∷ list) (put_permutes a (ordered list))
    (IsPermutation-cons a (ordered list) list (ordered_permutes list))

put_in_order : (a : SplitArg) (list : List SplitArg) → All (λ b. a.member < b.member) list → AllPairs ComesBefore list
    → AllPairs ComesBefore (put_in a list)
put_in_order a [] low h = AllPairs-cons ComesBefore a [] (All-nil (ComesBefore a)) h
put_in_order a (b ∷ list) low h = elim (cases_Bool (comes_before a b)) [
  | inl t ↦
      let first : ComesBefore a b = before_true a b t in
      let others : All (ComesBefore a) list =
      All-weaker (ComesBefore b) (ComesBefore a) (λ x q. before_trans a b x first q) list (AllPairs-head ComesBefore b list h) in
      rw t (AllPairs-cons ComesBefore a (b ∷ list) (All-cons (ComesBefore a) b list first others) h)
  | inr f ↦
      let behind : ComesBefore b a = before_false a b f (All-head (λ x. a.member < x.member) b list low) in
      let all : All (ComesBefore b) (a ∷ list) = All-cons (ComesBefore b) a list behind (AllPairs-head ComesBefore b list h) in
      rw f
      (AllPairs-cons ComesBefore b (put_in a list)
      (All-permutation (ComesBefore b) (a ∷ list) (put_in a list) (IsPermutation-sym (put_in a list) (a ∷ list) (put_permutes a list)) all)
      (put_in_order a list (All-tail (λ x. a.member < x.member) b list low) (AllPairs-tail ComesBefore b list h)))
]

ordered_in_order : (list : List SplitArg) → IsInMemberOrder list → AllPairs ComesBefore (ordered list)
ordered_in_order [] h = λ i j d lt within. absurd (omega arith)
ordered_in_order (a ∷ list) h =
    put_in_order a (ordered list)
    (All-permutation (λ b. a.member < b.member) list (ordered list) (IsPermutation-sym (ordered list) list (ordered_permutes list))
    (AllPairs-head (λ x y. x.member < y.member) a list h))
    (ordered_in_order list (AllPairs-tail (λ x y. x.member < y.member) a list h))

pub splits_are_ordered : SplitsAreOrdered
splits_are_ordered list colour h = record {
  in_order = ordered_in_order (filter (λ a. int_eq a.colour colour) list) (AllPairs-filter (λ x y. x.member < y.member) (λ a. int_eq a.colour colour) list h);
  same_members = ordered_permutes (filter (λ a. int_eq a.colour colour) list);
}
