-- Stages that fit together go on fitting together.
use Rattle.std.proofs.Common.{ℕ, zero, suc, ◌≡◌, ◌≢◌, ◌+◌, ◌-◌, ◌<◌, ◌≤◌, inl, inr, cond, true, false, refl, sym, ap, ◌∙◌, arith}
use Rattle.std.specs.Prelude.{nat_eq, not}
use Rattle.std.proofs.lemmas.Bool.{cases_lt, cases_eq, and_from, and_right, eq-eqb, ne_eqb, true≢false, false≢true, cond-true, cond-false, not_from_false}
use Rattle.collectives.specs.Tree.{lowest_bit, end_of, parent_of}
use Rattle.collectives.specs.Stages.{Stage, is_apart, is_rising, may_be_below, is_child, moved, Fit}
use Rattle.collectives.specs.Stages.Stage.{Apart, Rising, Held, Passed, Falling, Done}
use Rattle.collectives.proofs.TreeLemmas.{parent_less, end_within, end_cut, lowest_sum, lowest_at_most}

pub child_test : (i k : ℕ) → 0 < k → parent_of k ≡ i → is_child i k ≡ true
child_test i k some is =
    let other : nat_eq k 0 ≡ false = ne_eqb k 0 (λ e. absurd (omega arith)) in
    and_from (not (nat_eq k 0)) (nat_eq (parent_of k) i) (not_from_false (nat_eq k 0) other) (eq-eqb (parent_of k) i is)

pub not_child : (i k : ℕ) → (parent_of k ≡ i → ⊥) → is_child i k ≡ false
not_child i k other = and_right (not (nat_eq k 0)) (nat_eq (parent_of k) i) (ne_eqb (parent_of k) i other)

pub first_not_child : (i : ℕ) → is_child i 0 ≡ false
first_not_child i = refl

-- what the moved stages are
pub moved_own : (stage : ℕ → Stage) (i : ℕ) (own below : Stage) → moved stage i own below i ≡ own
moved_own stage i own below = cond-true (nat_eq i i) own (cond (is_child i i) below (stage i)) (eq-eqb i i refl)

pub moved_child : (stage : ℕ → Stage) (i k : ℕ) (own below : Stage) → 0 < k → parent_of k ≡ i → moved stage i own below k ≡ below
moved_child stage i k own below some is =
    let less : parent_of k < k = parent_less k some in
    cond-false (nat_eq k i) own (cond (is_child i k) below (stage k)) (ne_eqb k i (λ e. absurd (omega arith)))
    ∙ cond-true (is_child i k) below (stage k) (child_test i k some is)

pub moved_other : (stage : ℕ → Stage) (i k : ℕ) (own below : Stage) → k ≢ i → is_child i k ≡ false → moved stage i own below k ≡ stage k
moved_other stage i k own below other none =
    cond-false (nat_eq k i) own (cond (is_child i k) below (stage k)) (ne_eqb k i other) ∙ cond-false (is_child i k) below (stage k) none

-- below what isn't apart nothing is apart
below_not_apart : (p c : Stage) → may_be_below p c ≡ true → is_apart p ≡ false → is_apart c ≡ false
below_not_apart Apart c h a = absurd (true≢false a)
below_not_apart Rising Passed h a = refl
below_not_apart Rising Apart h a = absurd (false≢true h)
below_not_apart Rising Rising h a = refl
below_not_apart Rising Held h a = refl
below_not_apart Rising Falling h a = refl
below_not_apart Rising Done h a = refl
below_not_apart Held Passed h a = refl
below_not_apart Held Apart h a = absurd (false≢true h)
below_not_apart Held Rising h a = refl
below_not_apart Held Held h a = refl
below_not_apart Held Falling h a = refl
below_not_apart Held Done h a = refl
below_not_apart Passed Passed h a = refl
below_not_apart Passed Apart h a = absurd (false≢true h)
below_not_apart Passed Rising h a = refl
below_not_apart Passed Held h a = refl
below_not_apart Passed Falling h a = refl
below_not_apart Passed Done h a = refl
below_not_apart Falling Passed h a = refl
below_not_apart Falling Apart h a = absurd (false≢true h)
below_not_apart Falling Rising h a = refl
below_not_apart Falling Held h a = refl
below_not_apart Falling Falling h a = refl
below_not_apart Falling Done h a = refl
below_not_apart Done Passed h a = refl
below_not_apart Done Apart h a = absurd (false≢true h)
below_not_apart Done Rising h a = refl
below_not_apart Done Held h a = refl
below_not_apart Done Falling h a = refl
below_not_apart Done Done h a = refl

-- only what is apart has a child whose message is rising or held
pub above_rising : (p c : Stage) → may_be_below p c ≡ true → is_rising c ≡ true → p ≡ Apart
above_rising Apart c h a = refl
above_rising Rising Rising h a = absurd (false≢true h)
above_rising Held Rising h a = absurd (false≢true h)
above_rising Passed Rising h a = absurd (false≢true h)
above_rising Falling Rising h a = absurd (false≢true h)
above_rising Done Rising h a = absurd (false≢true h)
above_rising Rising Apart h a = absurd (false≢true a)
above_rising Rising Held h a = absurd (false≢true a)
above_rising Rising Passed h a = absurd (false≢true a)
above_rising Rising Falling h a = absurd (false≢true a)
above_rising Rising Done h a = absurd (false≢true a)
above_rising Held Apart h a = absurd (false≢true a)
above_rising Held Held h a = absurd (false≢true a)
above_rising Held Passed h a = absurd (false≢true a)
above_rising Held Falling h a = absurd (false≢true a)
above_rising Held Done h a = absurd (false≢true a)
above_rising Passed Apart h a = absurd (false≢true a)
above_rising Passed Held h a = absurd (false≢true a)
above_rising Passed Passed h a = absurd (false≢true a)
above_rising Passed Falling h a = absurd (false≢true a)
above_rising Passed Done h a = absurd (false≢true a)
above_rising Falling Apart h a = absurd (false≢true a)
above_rising Falling Held h a = absurd (false≢true a)
above_rising Falling Passed h a = absurd (false≢true a)
above_rising Falling Falling h a = absurd (false≢true a)
above_rising Falling Done h a = absurd (false≢true a)
above_rising Done Apart h a = absurd (false≢true a)
above_rising Done Held h a = absurd (false≢true a)
above_rising Done Passed h a = absurd (false≢true a)
above_rising Done Falling h a = absurd (false≢true a)
above_rising Done Done h a = absurd (false≢true a)

-- a member goes on with its children: what stands above and below has to fit
pub moved_fit : (n : ℕ) (stage : ℕ → Stage) (i : ℕ) (own below : Stage) → Fit n stage
    → (0 < i → may_be_below (stage (parent_of i)) own ≡ true) → may_be_below own below ≡ true
    → ((k l : ℕ) → 0 < k → k < n → parent_of k ≡ i → 0 < l → l < n → parent_of l ≡ k → may_be_below below (stage l) ≡ true)
    → Fit n (moved stage i own below)
moved_fit n stage i own below fit above between under = λ k some within.
    let new : ℕ → Stage = moved stage i own below in
    let less : parent_of k < k = parent_less k some in
    let P : Stage → Stage → Type 0 = λ p c. may_be_below p c ≡ true in
    elim (cases_eq k i) [
      | inl is_own ↦
          let not_me : parent_of k ≢ i = λ e. absurd (omega arith) in
          let not_below : is_child i (parent_of k) ≡ false = elim (cases_lt 0 (parent_of k)) [
            | inl more ↦ not_child i (parent_of k) (λ e. absurd (omega (arith, parent_less (parent_of k) more)))
            | inr none ↦ let zero_is : parent_of k ≡ 0 = omega arith in ap (is_child i) zero_is
          ] in
          let here : new k ≡ own = ap new is_own ∙ moved_own stage i own below in
          let there : new (parent_of k) ≡ stage (parent_of i) = moved_other stage i (parent_of k) own below not_me not_below ∙ ap (λ x. stage (parent_of x)) is_own in
          let fits : may_be_below (stage (parent_of i)) own ≡ true = above (omega arith) in
          rw (there, here) fits
      | inr other ↦ elim (cases_eq (parent_of k) i) [
        | inl child ↦
            let here : new k ≡ below = moved_child stage i k own below some child in
            let there : new (parent_of k) ≡ own = ap new child ∙ moved_own stage i own below in
            rw (there, here) between
        | inr no_child ↦
            let here : new k ≡ stage k = moved_other stage i k own below other (not_child i k no_child) in
            elim (cases_lt 0 (parent_of k)) [
              | inr none ↦
                  let zero_is : parent_of k ≡ 0 = omega arith in
                  let not_below : is_child i (parent_of k) ≡ false = ap (is_child i) zero_is in
                  let there : new (parent_of k) ≡ stage (parent_of k) = moved_other stage i (parent_of k) own below no_child not_below in
                  rw (there, here) (fit k some within)
              | inl more ↦ elim (cases_eq (parent_of (parent_of k)) i) [
                | inl grandchild ↦
                    let there : new (parent_of k) ≡ below = moved_child stage i (parent_of k) own below more grandchild in
                    rw (there, here) (under (parent_of k) k more (omega arith) grandchild some within refl)
                | inr neither ↦
                    let there : new (parent_of k) ≡ stage (parent_of k) = moved_other stage i (parent_of k) own below no_child (not_child i (parent_of k) neither) in
                    rw (there, here) (fit k some within)
              ]
            ]
      ]
    ]

-- the parent of a member of a subtree is in it
pub parent_in : (n i k : ℕ) → n ≤ 65536 → i < k → k < end_of n i → i ≤ parent_of k
parent_in n i k room less within = elim (cases_lt 0 i) [
  | inr none ↦ omega arith
  | inl some ↦
      let r : ℕ = k - i in
      let is : i + r ≡ k = omega arith in
      let under : r < lowest_bit i = omega (arith, end_cut n i some) in
      let small : i < 65536 = omega (arith, end_within n i) in
      let bit : lowest_bit k ≡ lowest_bit r = ap lowest_bit (sym is) ∙ lowest_sum i r some (omega arith) (omega arith) under in
      omega (arith, bit, lowest_at_most r (omega arith) (omega (arith, end_within n i)))
]

-- below a member that isn't apart nobody is
pub not_apart_below : (f n i k : ℕ) (stage : ℕ → Stage) → n ≤ 65536 → Fit n stage → is_apart (stage i) ≡ false → k ≤ f → i ≤ k → k < end_of n i → is_apart (stage k) ≡ false
not_apart_below zero n i k stage room fit own top low within = let e : i ≡ k = omega arith in ap (λ x. is_apart (stage x)) (sym e) ∙ own
not_apart_below (suc f) n i k stage room fit own top low within = elim (cases_eq i k) [
  | inl e ↦ ap (λ x. is_apart (stage x)) (sym e) ∙ own
  | inr other ↦
      let more : i < k = omega arith in
      let less : parent_of k < k = parent_less k (omega arith) in
      below_not_apart (stage (parent_of k)) (stage k) (fit k (omega arith) (omega (arith, end_within n i)))
      (not_apart_below f n i (parent_of k) stage room fit own (omega arith) (parent_in n i k room more within) (omega arith))
]
