-- What the stages say in words of messages.
use Rattle.std.proofs.Common.{ℕ, zero, suc, ◌≡◌, ◌<◌, ◌≤◌, ◌⊎◌, inl, inr, [], Bool, true, false, ◌||◌, length, refl, sym, ap, ◌∙◌, arith}
use Rattle.std.specs.Prelude.{filter}
use Rattle.std.proofs.lemmas.Bool.{cases_Bool, cases_lt, cases_eq, true≢false, false≢true, cond-false}
use Rattle.collectives.specs.Tree.{end_of, parent_of, children}
use Rattle.collectives.specs.Stages.{Stage, is_apart, is_rising, is_held, is_falling, is_done}
use Rattle.collectives.specs.System.{goes_down_to}
use Rattle.collectives.specs.Underway.{rank_in}
use Rattle.collectives.proofs.TreeLemmas.{parent_less, IsChild, children_are, end_within}
use Rattle.collectives.proofs.FallLemmas.{falls}
use Rattle.collectives.specs.Stages.{may_be_below, Fit}
use Rattle.collectives.specs.Stages.Stage.{Apart, Rising, Held, Passed, Falling, Done}
use Rattle.collectives.proofs.StageLemmas.{not_apart_below}
use Rattle.collectives.specs.Stages.{is_passed}
use Rattle.collectives.specs.Clause.{IsIn, ClauseHolds}
use Rattle.collectives.proofs.RestLemmas.{missing}
use Rattle.collectives.proofs.KeepLemmas.{none_done}
use Rattle.collectives.proofs.StageLemmas.{parent_in}
use Rattle.collectives.proofs.TreeLemmas.{end_nested, end_behind}
use Rattle.collectives.proofs.FallLemmas.{member_at}

-- below a message up, and below a list, everything has passed
abbrev is_over : Stage → Bool
is_over x = is_rising x || (is_held x || (is_passed x || is_falling x))

over_passed : (p c : Stage) → may_be_below p c ≡ true → is_over p ≡ true → is_passed c ≡ true
over_passed Rising c h e = h
over_passed Held c h e = h
over_passed Passed c h e = h
over_passed Falling c h e = h
over_passed Apart c h e = absurd (false≢true e)
over_passed Done c h e = absurd (false≢true e)

passed_over : (x : Stage) → is_passed x ≡ true → is_over x ≡ true
passed_over Passed e = refl
passed_over Apart e = absurd (false≢true e)
passed_over Rising e = absurd (false≢true e)
passed_over Held e = absurd (false≢true e)
passed_over Falling e = absurd (false≢true e)
passed_over Done e = absurd (false≢true e)

passed_below : (f n i k : ℕ) (stage : ℕ → Stage) → n ≤ 65536 → Fit n stage → is_over (stage i) ≡ true → k ≤ f → i < k → k < end_of n i → is_passed (stage k) ≡ true
passed_below zero n i k stage room fit own low less within = absurd (omega arith)
passed_below (suc f) n i k stage room fit own low less within =
    let up : parent_of k < k = parent_less k (omega arith) in
    let inside : k < n = omega (arith, end_within n i) in
    let from : i ≤ parent_of k = parent_in n i k room less within in
    elim (cases_eq i (parent_of k)) [
      | inl e ↦ over_passed (stage (parent_of k)) (stage k) (fit k (omega arith) inside) (ap (λ x. is_over (stage x)) (sym e) ∙ own)
      | inr other ↦ over_passed (stage (parent_of k)) (stage k) (fit k (omega arith) inside)
          (passed_over (stage (parent_of k)) (passed_below f n i (parent_of k) stage room fit own (omega arith) (omega arith) (omega arith)))
    ]

up_over : (x : Stage) → (is_rising x || is_held x) ≡ true → (is_over x ≡ true) × ((is_passed x ≡ false) × (is_apart x ≡ false))
up_over Rising e = (refl, (refl, refl))
up_over Held e = (refl, (refl, refl))
up_over Apart e = absurd (false≢true e)
up_over Passed e = absurd (false≢true e)
up_over Falling e = absurd (false≢true e)
up_over Done e = absurd (false≢true e)

falling_over : (x : Stage) → is_falling x ≡ true → (is_over x ≡ true) × ((is_passed x ≡ false) × (is_done x ≡ false))
falling_over Falling e = (refl, (refl, refl))
falling_over Apart e = absurd (false≢true e)
falling_over Rising e = absurd (false≢true e)
falling_over Held e = absurd (false≢true e)
falling_over Passed e = absurd (false≢true e)
falling_over Done e = absurd (false≢true e)

-- two such members over one are one
one_over : (n i j k : ℕ) (stage : ℕ → Stage) → n ≤ 65536 → Fit n stage → is_over (stage i) ≡ true → is_over (stage j) ≡ true → is_passed (stage i) ≡ false → is_passed (stage j) ≡ false → IsIn n i k → IsIn n j k → i ≡ j
one_over n i j k stage room fit oi oj pi pj a b = elim (cases_lt i j) [
  | inl less ↦ absurd (true≢false (sym (passed_below j n i j stage room fit oi (omega arith) less (omega (arith, a.upto, b.from))) ∙ pj))
  | inr not_less ↦ elim (cases_lt j i) [
    | inl less ↦ absurd (true≢false (sym (passed_below i n j i stage room fit oj (omega arith) less (omega (arith, b.upto, a.from))) ∙ pi))
    | inr not_more ↦ omega arith
  ]
]

-- a subtree within a subtree
end_in : (f n i x : ℕ) → n ≤ 65536 → x ≤ f → x < n → i ≤ x → x < end_of n i → end_of n x ≤ end_of n i
end_in zero n i x room low inside from upto = let e : x ≡ i = omega arith in omega (arith, ap (end_of n) e)
end_in (suc f) n i x room low inside from upto = elim (cases_eq x i) [
  | inl e ↦ omega (arith, ap (end_of n) e)
  | inr other ↦
      let less : parent_of x < x = parent_less x (omega arith) in
      let up : i ≤ parent_of x = parent_in n i x room (omega arith) upto in
      omega (arith, end_nested n x (omega arith) inside room, end_in f n i (parent_of x) room (omega arith) (omega arith) up (omega arith))
]

above_passed : (p : Stage) → may_be_below p Passed ≡ true → is_over p ≡ true
above_passed Rising e = refl
above_passed Held e = refl
above_passed Passed e = refl
above_passed Falling e = refl
above_passed Apart e = absurd (false≢true e)
above_passed Done e = absurd (false≢true e)

-- what has passed is below a member that is over it and hasn't
over_above : (f n k : ℕ) (stage : ℕ → Stage) → n ≤ 65536 → Fit n stage → is_over (stage 0) ≡ false → k ≤ f → k < n → is_over (stage k) ≡ true
    → (i : ℕ) × ((i < n) × ((is_over (stage i) ≡ true) × ((is_passed (stage i) ≡ false) × IsIn n i k)))
over_above zero n k stage room fit top low within over = let e : k ≡ 0 = omega arith in absurd (true≢false (sym over ∙ (ap (λ x. is_over (stage x)) e ∙ top)))
over_above (suc f) n k stage room fit top low within over = elim (cases_Bool (is_passed (stage k))) [
  | inr f' ↦ (k, (within, (over, (f', record { from = omega arith; upto = end_behind n k within }))))
  | inl passed ↦ elim (cases_lt 0 k) [
    | inr none ↦ let e : k ≡ 0 = omega arith in absurd (true≢false (sym over ∙ (ap (λ x. is_over (stage x)) e ∙ top)))
    | inl some ↦
        let less : parent_of k < k = parent_less k some in
        let above : is_over (stage (parent_of k)) ≡ true = above_passed (stage (parent_of k)) (ap (λ x. may_be_below (stage (parent_of k)) x) (sym (passed_is (stage k) passed)) ∙ fit k some within) in
        let it = over_above f n (parent_of k) stage room fit top (omega arith) (omega arith) above in
        let inside : IsIn n it.0 (parent_of k) = it.1.1.1.1 in (
          it.0,
          (
            it.1.0,
            (
              it.1.1.0,
              (
                it.1.1.1.0,
                record {
                  from = omega (arith, inside.from);
                  upto = omega (arith, end_behind n k within, end_nested n k some within room, end_in (parent_of k) n it.0 (parent_of k) room (omega arith) (omega arith) inside.from inside.upto);
                },
              ),
            ),
          ),
        )
  ]
]
  where
    passed_is : (x : Stage) → is_passed x ≡ true → x ≡ Passed
    passed_is Passed e = refl
    passed_is Apart e = absurd (false≢true e)
    passed_is Rising e = absurd (false≢true e)
    passed_is Held e = absurd (false≢true e)
    passed_is Falling e = absurd (false≢true e)
    passed_is Done e = absurd (false≢true e)

top_not_over : (x : Stage) → (is_apart x || is_done x) ≡ true → (is_over x ≡ false) × (is_done x ≡ false → is_apart x ≡ true)
top_not_over Apart e = (refl, λ h. refl)
top_not_over Done e = (refl, λ h. absurd (true≢false h))
top_not_over Rising e = absurd (false≢true e)
top_not_over Held e = absurd (false≢true e)
top_not_over Passed e = absurd (false≢true e)
top_not_over Falling e = absurd (false≢true e)

over_cases : (x : Stage) → is_over x ≡ true → is_passed x ≡ false → ((is_rising x || is_held x) ≡ true) ⊎ (is_falling x ≡ true)
over_cases Rising e p = inl refl
over_cases Held e p = inl refl
over_cases Falling e p = inr refl
over_cases Passed e p = absurd (true≢false p)
over_cases Apart e p = absurd (false≢true e)
over_cases Done e p = absurd (false≢true e)

is_some_stage : (x : Stage) → is_done x ≡ false → (is_apart x ≡ true) ⊎ (is_over x ≡ true)
is_some_stage Apart e = inl refl
is_some_stage Rising e = inr refl
is_some_stage Held e = inr refl
is_some_stage Passed e = inr refl
is_some_stage Falling e = inr refl
is_some_stage Done e = absurd (true≢false e)

-- once the list is there, nothing is apart and nothing goes up
no_up_below : (p c : Stage) → may_be_below p c ≡ true → (is_apart p ≡ false) → (is_rising p || is_held p) ≡ false → (is_apart c ≡ false) × ((is_rising c || is_held c) ≡ false)
no_up_below Apart c h a u = absurd (true≢false a)
no_up_below Rising c h a u = absurd (true≢false u)
no_up_below Held c h a u = absurd (true≢false u)
no_up_below p Passed h a u = (refl, refl)
no_up_below p Falling h a u = (refl, refl)
no_up_below p Done h a u = (refl, refl)
no_up_below Passed Apart h a u = absurd (false≢true h)
no_up_below Passed Rising h a u = absurd (false≢true h)
no_up_below Passed Held h a u = absurd (false≢true h)
no_up_below Falling Apart h a u = absurd (false≢true h)
no_up_below Falling Rising h a u = absurd (false≢true h)
no_up_below Falling Held h a u = absurd (false≢true h)
no_up_below Done Apart h a u = absurd (false≢true h)
no_up_below Done Rising h a u = absurd (false≢true h)
no_up_below Done Held h a u = absurd (false≢true h)

no_up_once : (f n k : ℕ) (stage : ℕ → Stage) → Fit n stage → stage 0 ≡ Done → k ≤ f → k < n → (is_apart (stage k) ≡ false) × ((is_rising (stage k) || is_held (stage k)) ≡ false)
no_up_once zero n k stage fit top low within = let e : k ≡ 0 = omega arith in let a : stage k ≡ Done = ap stage e ∙ top in (ap is_apart a, ap (λ x. is_rising x || is_held x) a)
no_up_once (suc f) n k stage fit top low within = elim (cases_lt 0 k) [
  | inr none ↦ let e : k ≡ 0 = omega arith in let a : stage k ≡ Done = ap stage e ∙ top in (ap is_apart a, ap (λ x. is_rising x || is_held x) a)
  | inl some ↦
      let less : parent_of k < k = parent_less k some in
      let above = no_up_once f n (parent_of k) stage fit top (omega arith) (omega arith) in
      no_up_below (stage (parent_of k)) (stage k) (fit k some within) above.0 above.1
]

done_is : (x : Stage) → is_done x ≡ true → x ≡ Done
done_is Done e = refl
done_is Apart e = absurd (false≢true e)
done_is Rising e = absurd (false≢true e)
done_is Held e = absurd (false≢true e)
done_is Passed e = absurd (false≢true e)
done_is Falling e = absurd (false≢true e)

pub clause_holds : ClauseHolds
clause_holds groups gives s g position are under known =
    let n : ℕ = length g.members in
    let c = under.at.each g.ctx g position known in
    let stage : ℕ → Stage = under.stages g.ctx position in
    let room : n ≤ 65536 = are.room g.ctx g known in
    let top = top_not_over (stage 0) c.fits.top in
    record {
      before = λ not_done.
          let apart : is_apart (stage 0) ≡ true = top.1 not_done in
          let none : (k : ℕ) → k < n → (is_done (stage k) ≡ false) × (is_falling (stage k) ≡ false) = λ k within. none_done k n k stage c.fits.fit apart (omega arith) within in
          record {
            none_gathered = λ i within. (none i within).0;
            whole = λ i k within up inside. c.fits.joined k (omega (arith, inside.upto, end_within n i))
                (not_apart_below k n i k stage room c.fits.fit (up_over (stage i) up).1.1 (omega arith) inside.from inside.upto);
            in_one = λ i j k i_within j_within up_i up_j a b.
                one_over n i j k stage room c.fits.fit (up_over (stage i) up_i).0 (up_over (stage j) up_j).0 (up_over (stage i) up_i).1.0 (up_over (stage j) up_j).1.0 a b;
            lacks = λ k within has none_over. elim (is_some_stage (stage k) (none k within).0) [
              | inl k_apart ↦
                  let m = missing (IsChild n k) (λ x. is_held (stage x)) (children n k) (children_are n k within room) (c.waits k within k_apart has) in
                  (m.0, (omega (arith, m.1.0.within, end_within n k), (omega (arith, m.1.0.behind), (m.1.0.parent, m.1.1))))
              | inr over ↦
                  let it = over_above k n k stage room c.fits.fit top.0 (omega arith) within over in
                  elim (over_cases (stage it.0) it.1.1.0 it.1.1.1.0) [
                    | inl up ↦ absurd (none_over it.0 it.1.0 up it.1.1.1.1)
                    | inr falls ↦ absurd (true≢false (sym falls ∙ (none it.0 it.1.0).1))
                  ]
            ];
            no_list = λ r. elim (member_at n r (rank_in g)) [
              | inr stray ↦ c.messages.no_strays r stray
              | inl at ↦
                  ap (λ x. filter (goes_down_to g.ctx position x) s.bag) (sym at.1.1) ∙ (c.messages.falling at.0 at.1.0 ∙ cond-false (is_falling (stage at.0)) _ [] (none at.0 at.1.0).1)
            ];
          };
      once = λ done.
          let is : stage 0 ≡ Done = done_is (stage 0) done in
          let no_up : (k : ℕ) → k < n → (is_apart (stage k) ≡ false) × ((is_rising (stage k) || is_held (stage k)) ≡ false) = λ k within. no_up_once k n k stage c.fits.fit is (omega arith) within in
          record {
            no_up = λ i within. (no_up i within).1;
            one = λ k within not_done. elim (is_some_stage (stage k) not_done) [
              | inl a ↦ absurd (true≢false (sym a ∙ (no_up k within).0))
              | inr over ↦
                  let it = over_above k n k stage room c.fits.fit top.0 (omega arith) within over in
                  elim (over_cases (stage it.0) it.1.1.0 it.1.1.1.0) [
                    | inl up ↦ absurd (true≢false (sym up ∙ (no_up it.0 it.1.0).1))
                    | inr falls ↦ (it.0, (it.1.0, (falls, it.1.1.1.1)))
                  ]
            ];
            only_one = λ i j k i_within j_within fi fj a b.
                one_over n i j k stage room c.fits.fit (falling_over (stage i) fi).0 (falling_over (stage j) fj).0 (falling_over (stage i) fi).1.0 (falling_over (stage j) fj).1.0 a b;
            none_below = λ i k within fi inside. elim (cases_eq i k) [
              | inl e ↦ ap (λ x. is_done (stage x)) (sym e) ∙ (falling_over (stage i) fi).1.1
              | inr other ↦ passed_not_done (stage k) (passed_below k n i k stage room c.fits.fit (falling_over (stage i) fi).0 (omega arith) (omega (arith, inside.from)) inside.upto)
            ];
          };
    }
  where
    passed_not_done : (x : Stage) → is_passed x ≡ true → is_done x ≡ false
    passed_not_done Passed e = refl
    passed_not_done Apart e = refl
    passed_not_done Rising e = refl
    passed_not_done Held e = refl
    passed_not_done Falling e = refl
    passed_not_done Done e = absurd (false≢true e)
