-- The lowest set bit, and the binomial tree.
use Rattle.std.proofs.Common.{ℕ, zero, suc, ◌≡◌, ◌≢◌, ◌+◌, ◌-◌, ◌*◌, ◌/◌, ◌%◌, ◌^◌, ◌<◌, ◌≤◌, ◌⊎◌, inl, inr, [], ◌∷◌, true, false, refl, sym, subst, ap, ◌∙◌, arith}
use Rattle.std.specs.Prelude.{nat_lt, nat_eq, min, All, sum_by}
use Rattle.std.proofs.lemmas.List.Elements.{All-nil, All-cons}
use Rattle.std.proofs.lemmas.List.Sums.{sum_by-cons}
use Rattle.std.specs.Int.Count.{count_trailing_zeros}
use Rattle.std.proofs.lemmas.Bool.{cases_Bool, cases_eq, cases_lt, eqb-true, eqb-false, ne_eqb, lt-ltb, le-ltb, ltb-true}
use Rattle.std.proofs.Math.Nat.{pow-succ', one-le-pow}
use Rattle.collectives.specs.Tree.{lowest_bit, end_of, parent_of, children_from, children}

-- of the k lowest digits
abbrev low : ℕ → ℕ → ℕ
low k i = 2 ^ count_trailing_zeros k i

low_odd : (k i : ℕ) → i % 2 ≡ 1 → low (suc k) i ≡ 1
unfolding count_trailing_zeros
low_odd k i e = rw e refl

low_even : (k i : ℕ) → i % 2 ≡ 0 → low (suc k) i ≡ 2 * low k (i / 2)
unfolding count_trailing_zeros
low_even k i e = rw e (pow-succ' 2 (count_trailing_zeros k (i / 2)))

parity : (i : ℕ) → (i % 2 ≡ 0) ⊎ (i % 2 ≡ 1)
parity i = elim (cases_eq (i % 2) 0) [ inl e ↦ inl e | inr n ↦ inr (omega arith) ]

half_below : (k i : ℕ) → i < 2 ^ suc k → i / 2 < 2 ^ k
half_below k i h = omega (arith, pow-succ' 2 k)

low_pos : (k i : ℕ) → 0 < low k i
low_pos k i = let h : 1 ≤ 2 ^ count_trailing_zeros k i = one-le-pow (count_trailing_zeros k i) 2 (omega arith) in omega arith

low_at_most : (k i : ℕ) → 0 < i → i < 2 ^ k → low k i ≤ i
low_at_most zero i some h = absurd (omega arith)
low_at_most (suc k) i some h = elim (parity i) [
  | inl e ↦ omega (arith, low_even k i e, low_at_most k (i / 2) (omega arith) (half_below k i h))
  | inr o ↦ omega (arith, low_odd k i o)
]

-- a digit more changes nothing
low_more : (k i : ℕ) → 0 < i → i < 2 ^ k → low (suc k) i ≡ low k i
low_more zero i some h = absurd (omega arith)
low_more (suc k) i some h = elim (parity i) [
  | inl e ↦ omega (arith, low_even (suc k) i e, low_even k i e, low_more k (i / 2) (omega arith) (half_below k i h))
  | inr o ↦ omega (arith, low_odd (suc k) i o, low_odd k i o)
]

low_double : (k m : ℕ) → 0 < m → 2 * m < 2 ^ k → low k (2 * m) ≡ 2 * low k m
low_double zero m some h = absurd (omega arith)
low_double (suc k) m some h =
    let even : (2 * m) % 2 ≡ 0 = omega arith in
    let half : (2 * m) / 2 ≡ m = omega arith in
    let below : m < 2 ^ k = omega (arith, pow-succ' 2 k) in
    low_even k (2 * m) even ∙ (ap (λ x. 2 * low k x) half ∙ ap (λ x. 2 * x) (sym (low_more k m some below)))

low_of_low : (k i : ℕ) → 0 < i → i < 2 ^ k → low k (low k i) ≡ low k i
low_of_low zero i some h = absurd (omega arith)
low_of_low (suc k) i some h = elim (parity i) [
  | inl e ↦
      let m : ℕ = low k (i / 2) in
      let is : low (suc k) i ≡ 2 * m = low_even k i e in
      let even : (2 * m) % 2 ≡ 0 = omega arith in
      let half : (2 * m) / 2 ≡ m = omega arith in
      ap (low (suc k)) is ∙ (low_even k (2 * m) even ∙ (ap (λ x. 2 * low k x) half
      ∙ (ap (λ x. 2 * x) (low_of_low k (i / 2) (omega arith) (half_below k i h)) ∙ sym is)))
  | inr o ↦ ap (low (suc k)) (low_odd k i o) ∙ (low_odd k 1 refl ∙ sym (low_odd k i o))
]

-- what is less than the lowest bit of c keeps its own lowest bit when it is added
low_sum : (k c r : ℕ) → 0 < c → c < 2 ^ k → 0 < r → r < low k c → low k (c + r) ≡ low k r
low_sum zero c r some h more less = absurd (omega arith)
low_sum (suc k) c r some h more less = elim (parity c) [
  | inr o ↦ absurd (omega (arith, low_odd k c o))
  | inl e ↦ elim (parity r) [
    | inr o ↦ let odd : (c + r) % 2 ≡ 1 = omega arith in low_odd k (c + r) odd ∙ sym (low_odd k r o)
    | inl f ↦
        let even : (c + r) % 2 ≡ 0 = omega arith in
        let half : (c + r) / 2 ≡ c / 2 + r / 2 = omega arith in
        low_even k (c + r) even ∙ (ap (λ x. 2 * low k x) half
        ∙ (ap (λ x. 2 * x) (low_sum k (c / 2) (r / 2) (omega arith) (half_below k c h) (omega arith) (omega (arith, low_even k c e))) ∙ sym (low_even k r f)))
  ]
]

-- without its lowest bit, a number has a greater lowest bit
low_rest : (k c : ℕ) → 0 < c → c < 2 ^ k → 0 < c - low k c → 2 * low k c ≤ low k (c - low k c)
low_rest zero c some h more = absurd (omega arith)
low_rest (suc k) c some h more = elim (parity c) [
  | inr o ↦
      let p : ℕ = c - low (suc k) c in
      let is : p ≡ c - 1 = ap (λ x. c - x) (low_odd k c o) in
      let even : p % 2 ≡ 0 = omega arith in
      omega (arith, low_odd k c o, low_even k p even, low_pos k (p / 2))
  | inl e ↦
      let m : ℕ = low k (c / 2) in
      let p : ℕ = c - low (suc k) c in
      let is : p ≡ c - 2 * m = ap (λ x. c - x) (low_even k c e) in
      let even : p % 2 ≡ 0 = omega arith in
      let half : p / 2 ≡ c / 2 - m = omega arith in
      omega (arith, low_even k c e, low_even k p even, ap (low k) half, low_rest k (c / 2) (omega arith) (half_below k c h) (omega arith))
]

within : (i : ℕ) → i < 2 ^ 60 → i < 2 ^ 64
within i h = omega arith

pub lowest_pos : (i : ℕ) → 0 < lowest_bit i
unfolding lowest_bit
lowest_pos i = low_pos 64 i

pub lowest_at_most : (i : ℕ) → 0 < i → i < 2 ^ 64 → lowest_bit i ≤ i
unfolding lowest_bit
lowest_at_most i some h = low_at_most 64 i some h

pub lowest_sum : (c r : ℕ) → 0 < c → c < 2 ^ 60 → 0 < r → r < lowest_bit c → lowest_bit (c + r) ≡ lowest_bit r
unfolding lowest_bit
lowest_sum c r some h more less = low_sum 64 c r some (within c h) more less

pub lowest_double : (m : ℕ) → 0 < m → m < 2 ^ 60 → lowest_bit (2 * lowest_bit m) ≡ 2 * lowest_bit m
unfolding lowest_bit
lowest_double m some h =
    let small : low 64 m ≤ m = low_at_most 64 m some (within m h) in
    low_double 64 (low 64 m) (low_pos 64 m) (omega arith) ∙ ap (λ x. 2 * x) (low_of_low 64 m some (within m h))

pub lowest_rest : (c : ℕ) → 0 < c → c < 2 ^ 60 → 0 < parent_of c → 2 * lowest_bit c ≤ lowest_bit (parent_of c)
unfolding lowest_bit
lowest_rest c some h more = low_rest 64 c some (within c h) more

pub lowest_one : lowest_bit 1 ≡ 1
unfolding lowest_bit
lowest_one = low_odd 63 1 refl

pub lowest_is : (i : ℕ) → 0 < i → i < 2 ^ 64 → 1 * 2 ^ count_trailing_zeros 64 i % 18446744073709551616 ≡ lowest_bit i
unfolding lowest_bit
lowest_is i some h = let small : 2 ^ count_trailing_zeros 64 i ≤ i = low_at_most 64 i some h in omega arith

-- ends and children
pub end_behind : (n c : ℕ) → c < n → c < end_of n c
end_behind n c h = elim (cases_Bool (nat_eq c 0)) [
  | inl e ↦ rw e h
  | inr f ↦ rw f (omega (arith, lowest_pos c))
]

pub end_within : (n c : ℕ) → end_of n c ≤ n
end_within n c = elim (cases_Bool (nat_eq c 0)) [
  | inl e ↦ rw e (omega arith)
  | inr f ↦ rw f (omega arith)
]

-- enough steps are enough
pub children_fuel : (k l n c e : ℕ) → e ≤ n → e - c ≤ k → e - c ≤ l → children_from k n c e ≡ children_from l n c e
children_fuel zero zero n c e h p q = refl
children_fuel zero (suc l) n c e h p q = let none : nat_lt c e ≡ false = le-ltb c e (omega arith) in rw none refl
children_fuel (suc k) zero n c e h p q = let none : nat_lt c e ≡ false = le-ltb c e (omega arith) in rw none refl
children_fuel (suc k) (suc l) n c e h p q = elim (cases_Bool (nat_lt c e)) [
  | inl t ↦
      let less : c < e = ltb-true c e t in
      let behind : c < end_of n c = end_behind n c (omega arith) in
      rw t (ap (λ xs. c ∷ xs) (children_fuel k l n (end_of n c) e h (omega arith) (omega arith)))
  | inr f ↦ rw f refl
]

pub children_step : (n c e : ℕ) → c < e → e ≤ n → children_from (e - c) n c e ≡ c ∷ children_from (e - end_of n c) n (end_of n c) e
children_step n c e less h =
    let k : ℕ = e - c - 1 in
    let is : e - c ≡ suc k = omega arith in
    let some : nat_lt c e ≡ true = lt-ltb c e less in
    let behind : c < end_of n c = end_behind n c (omega arith) in
    ap (λ m. children_from m n c e) is ∙ rw some (ap (λ xs. c ∷ xs) (children_fuel k (e - end_of n c) n (end_of n c) e h (omega arith) (omega arith)))

pub children_start : (n i e : ℕ) → e ≡ end_of n i → children_from (e - (i + 1)) n (i + 1) e ≡ children n i
children_start n i e is =
    let cut : e ≤ n = omega (arith, is, end_within n i) in
    children_fuel (e - (i + 1)) n n (i + 1) e cut (omega arith) (omega arith) ∙ ap (children_from n n (i + 1)) is

-- a number of k digits with its lowest bit once more has at most k digits, or is their end
low_room : (k m c : ℕ) → 0 < c → c < 2 ^ k → c + low (k + m) c ≤ 2 ^ k
low_room zero m c some h = absurd (omega arith)
low_room (suc k) m c some h =
    let is : suc k + m ≡ suc (k + m) = omega arith in
    let P : ℕ → Type 0 = λ n. c + low n c ≤ 2 ^ suc k in
    subst P (sym is) (elim (parity c) [
      | inl e ↦ omega (arith, low_even (k + m) c e, pow-succ' 2 k, low_room k m (c / 2) (omega arith) (half_below k c h))
      | inr o ↦ omega (arith, low_odd (k + m) c o, pow-succ' 2 k)
    ])

lowest_room : (c : ℕ) → 0 < c → c < 256 → c + lowest_bit c ≤ 256
unfolding lowest_bit
lowest_room c some h = low_room 8 56 c some h

pub parent_less : (c : ℕ) → 0 < c → parent_of c < c
parent_less c some = omega (arith, lowest_pos c)

-- the first child of a member
pub parent_first : (n i : ℕ) → i < n → n ≤ 65536 → i + 1 < end_of n i → parent_of (i + 1) ≡ i
parent_first n i within room h = elim (cases_Bool (nat_eq i 0)) [
  | inl e ↦
      let none : i ≡ 0 = eqb-true i 0 e in
      let one : lowest_bit (i + 1) ≡ 1 = ap (λ k. lowest_bit (k + 1)) none ∙ lowest_one in
      omega (arith, one)
  | inr f ↦
      let some : 0 < i = let other : i ≢ 0 = eqb-false i 0 f in omega arith in
      let cut : end_of n i ≡ min n (i + lowest_bit i) = rw f refl in
      let more : 1 < lowest_bit i = omega (arith, cut) in
      let one : lowest_bit (i + 1) ≡ 1 = lowest_sum i 1 some (omega arith) (omega arith) more ∙ lowest_one in
      omega (arith, one)
]

pub end_cut : (n c : ℕ) → 0 < c → end_of n c ≡ min n (c + lowest_bit c)
end_cut n c some = let f : nat_eq c 0 ≡ false = ne_eqb c 0 (λ e. absurd (omega arith)) in rw f refl

end_whole : (n : ℕ) → end_of n 0 ≡ n
end_whole n = refl

-- a subtree ends within that of the parent, also where it isn't cut
pub lowest_nested : (c : ℕ) → 0 < c → c < 2 ^ 60 → 0 < parent_of c → c + lowest_bit c ≤ parent_of c + lowest_bit (parent_of c)
lowest_nested c some h more = omega (arith, lowest_rest c some h more, lowest_at_most c some (omega arith))

pub end_nested : (n c : ℕ) → 0 < c → c < n → n ≤ 65536 → end_of n c ≤ end_of n (parent_of c)
end_nested n c some within room = elim (cases_lt 0 (parent_of c)) [
  | inl more ↦ omega (arith, end_cut n c some, end_cut n (parent_of c) more, lowest_nested c some (omega arith) more)
  | inr none ↦
      let zero_is : parent_of c ≡ 0 = omega arith in
      let whole : end_of n (parent_of c) ≡ n = ap (end_of n) zero_is in
      omega (arith, end_within n c, whole)
]

-- behind the subtree of a child stands the next one
pub parent_next : (n c : ℕ) → 0 < c → c < n → n ≤ 65536 → end_of n c < end_of n (parent_of c) → parent_of (end_of n c) ≡ parent_of c
parent_next n c some within room h =
    let low_c : ℕ = lowest_bit c in
    let small : low_c ≤ c = lowest_at_most c some (omega arith) in
    let uncut : end_of n c ≡ c + low_c = omega (arith, end_cut n c some, end_within n (parent_of c)) in
    elim (cases_lt 0 (parent_of c)) [
      | inl more ↦
          let room_there : 2 * low_c < lowest_bit (parent_of c) = omega (arith, end_cut n (parent_of c) more) in
          let sum_is : parent_of c + 2 * low_c ≡ c + low_c = omega arith in
          let bit : lowest_bit (c + low_c) ≡ 2 * low_c =
          ap lowest_bit (sym sum_is) ∙ (lowest_sum (parent_of c) (2 * low_c) more (omega arith) (omega (arith, lowest_pos c)) room_there ∙ lowest_double c some (omega arith)) in
          omega (arith, ap parent_of uncut, bit)
      | inr none ↦
          let same : c ≡ low_c = omega arith in
          let bit : lowest_bit (c + low_c) ≡ 2 * low_c = ap lowest_bit (let e : c + low_c ≡ 2 * low_c = omega arith in e) ∙ lowest_double c some (omega arith) in
          omega (arith, ap parent_of uncut, bit)
    ]

-- what is so of a child
pub record IsChild (n i c : ℕ) : Type 0 where
  pub parent : parent_of c ≡ i
  pub behind : i < c
  pub within : c < end_of n i

pub children_from_are : (k n i c : ℕ) → i < n → n ≤ 65536 → i < c → (c < end_of n i → parent_of c ≡ i) → All (IsChild n i) (children_from k n c (end_of n i))
children_from_are zero n i c within room behind is = All-nil (IsChild n i)
children_from_are (suc k) n i c within room behind is = elim (cases_Bool (nat_lt c (end_of n i))) [
  | inl t ↦
      let less : c < end_of n i = ltb-true c (end_of n i) t in
      let inside : c < n = omega (arith, end_within n i) in
      let more : c < end_of n c = end_behind n c inside in
      let next : end_of n c < end_of n i → parent_of (end_of n c) ≡ i =
      λ q. let P : ℕ → Type 0 = λ x. end_of n c < end_of n x in
      parent_next n c (omega arith) inside room (subst P (sym (is less)) q) ∙ is less in
      rw t (All-cons (IsChild n i) c (children_from k n (end_of n c) (end_of n i)) (record { parent = is less; behind = behind; within = less })
      (children_from_are k n i (end_of n c) within room (omega arith) next))
  | inr f ↦ rw f (All-nil (IsChild n i))
]

pub children_are : (n i : ℕ) → i < n → n ≤ 65536 → All (IsChild n i) (children n i)
children_are n i within room = children_from_are n n i (i + 1) within room (omega arith) (λ h. parent_first n i within room h)

pub children_past : (k n c e : ℕ) → e ≤ c → children_from k n c e ≡ []
children_past zero n c e h = refl
children_past (suc k) n c e h = let none : nat_lt c e ≡ false = le-ltb c e h in rw none refl

-- the lowest bits of the children of a member
children_weight : (k n i c limit : ℕ) → i < n → n ≤ 65536 → i < c → (c < end_of n i → parent_of c ≡ i) → c ≤ limit
    → ((d : ℕ) → IsChild n i d → d + lowest_bit d ≤ limit) → sum_by lowest_bit (children_from k n c (end_of n i)) + c ≤ limit
children_weight zero n i c limit within room behind is start each = omega arith
children_weight (suc k) n i c limit within room behind is start each = elim (cases_Bool (nat_lt c (end_of n i))) [
  | inl t ↦
      let e : ℕ = end_of n i in
      let less : c < e = ltb-true c e t in
      let inside : c < n = omega (arith, end_within n i) in
      let more : c < end_of n c = end_behind n c inside in
      let next : end_of n c < e → parent_of (end_of n c) ≡ i =
      λ q. let P : ℕ → Type 0 = λ x. end_of n c < end_of n x in
      parent_next n c (omega arith) inside room (subst P (sym (is less)) q) ∙ is less in
      let fits : c + lowest_bit c ≤ limit = each c (record { parent = is less; behind = behind; within = less }) in
      let rest : sum_by lowest_bit (children_from k n (end_of n c) e) + lowest_bit c + c ≤ limit =
      elim (cases_lt (end_of n c) e) [
        | inl q ↦
            let uncut : end_of n c ≡ c + lowest_bit c = omega (arith, end_cut n c (omega arith), end_within n i) in
            omega (arith, children_weight k n i (end_of n c) limit within room (omega arith) next (omega (arith, uncut)) each)
        | inr q ↦ omega (arith, ap (sum_by lowest_bit) (children_past k n (end_of n c) e q))
      ] in
      rw t (omega (arith, sum_by-cons lowest_bit c (children_from k n (end_of n c) e)))
  | inr f ↦ rw f (omega arith)
]

pub children_lighter : (n i : ℕ) → 0 < i → i < n → n ≤ 65536 → sum_by lowest_bit (children n i) < lowest_bit i
children_lighter n i some within room =
    omega (
      arith,
      lowest_pos i,
      children_weight n n i (i + 1) (i + lowest_bit i) within room (omega arith) (λ h. parent_first n i within room h) (omega (arith, lowest_pos i))
          (λ d is. fits d is),
    )
  where
    fits : (d : ℕ) → IsChild n i d → d + lowest_bit d ≤ i + lowest_bit i
    fits d is =
        let more : 0 < parent_of d = omega (arith, is.parent) in
        omega (arith, lowest_nested d (omega (arith, is.behind)) (omega (arith, is.within, end_within n i)) more, is.parent, ap lowest_bit is.parent)

pub first_lighter : (n : ℕ) → 0 < n → n ≤ 256 → sum_by lowest_bit (children n 0) < 256
first_lighter n some few =
    omega (
      arith,
      children_weight n n 0 1 256 some (omega arith) (omega arith) (λ h. parent_first n 0 some (omega arith) h) (omega arith)
          (λ d is. lowest_room d is.behind (omega (arith, is.within))),
    )
