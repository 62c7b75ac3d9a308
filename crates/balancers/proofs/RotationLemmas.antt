-- The cycle of the live processors.
use Rattle.std.proofs.Common.{◌≡◌, ℕ, zero, suc, ◌+◌, ◌%◌, ◌<◌, ◌≤◌, ◌⊎◌, inl, inr, Bool, true, false, cond, Some, None, List, [], ◌∷◌, length, get_or, take, take_all, sym, ◌∙◌, ap, subst, arith}
use Rattle.std.specs.Prelude.{nat_eq, nat_lt, find, unwrap_or}
use Rattle.std.specs.List.{All, Contains}
use Rattle.std.proofs.Math.Nat.{mod_self, mod-eq_of_lt, mod-lt}
use Rattle.std.proofs.lemmas.Bool.{eq-eqb, ne_eqb, cond-true, cond-false, cases_lt, cases_eq, lt-ltb, le-ltb}
use Rattle.std.proofs.lemmas.List.{get_or-map}
use Rattle.std.proofs.lemmas.List.Elements.{All-map, Contains-get_or}
use Rattle.am_base.specs.declared.numbers.ProcId.{ProcId}
use Rattle.balancers.specs.declared.loads.Load.{Load}
use Rattle.balancers.specs.Loads.{AreLoads, place_in, places, brought}
use Rattle.balancers.specs.Rotation.{next_live, rotated, in_cycle, GoesOneOn, LoadsGoOneOn}
use Rattle.balancers.specs.Turns.{Ascend}
use Rattle.balancers.proofs.SumLemmas.{sum_by-same, all_pairs-tail}
use Rattle.balancers.proofs.SpreadLemmas.{at_any}

pub found_above : (live : List ProcId) (i : ℕ) (d : ProcId) → Ascend live → i + 1 < length live
    → find (λ (q : ProcId). nat_lt (get_or live i d).0 q.0) live ≡ Some (get_or live (suc i) d)
found_above [] i d up inside = absurd (omega arith)
found_above (x ∷ []) i d up inside = absurd (omega arith)
found_above (x ∷ (y ∷ ys)) zero d up inside =
    let own : nat_lt x.0 x.0 ≡ false = le-ltb x.0 x.0 (omega arith) in
    let next : nat_lt x.0 y.0 ≡ true = lt-ltb x.0 y.0 (up 0 1 d (omega arith) (omega arith)) in
    let xs : List ProcId = y ∷ ys in
    cond-false (nat_lt x.0 x.0) (Some x) (find (λ (q : ProcId). nat_lt x.0 q.0) xs) own
    ∙ cond-true (nat_lt x.0 y.0) (Some y) (find (λ (q : ProcId). nat_lt x.0 q.0) ys) next
found_above (x ∷ (y ∷ ys)) (suc i) d up inside =
    let xs : List ProcId = y ∷ ys in
    let p : ProcId = get_or xs i d in
    let above : nat_lt p.0 x.0 ≡ false = le-ltb p.0 x.0 (let h : x.0 < p.0 = up 0 (suc i) d (omega arith) (omega arith) in omega arith) in
    cond-false (nat_lt p.0 x.0) (Some x) (find (λ (q : ProcId). nat_lt p.0 q.0) xs) above
    ∙ found_above xs i d (all_pairs-tail (λ a b. a.0 < b.0) x xs up) (omega arith)

pub none_above : (live : List ProcId) (i : ℕ) (d : ProcId) → Ascend live → i + 1 ≡ length live
    → find (λ (q : ProcId). nat_lt (get_or live i d).0 q.0) live ≡ None
none_above [] i d up inside = absurd (omega arith)
none_above (x ∷ []) zero d up inside = cond-false (nat_lt x.0 x.0) (Some x) None (le-ltb x.0 x.0 (omega arith))
none_above (x ∷ []) (suc i) d up inside = absurd (omega arith)
none_above (x ∷ (y ∷ ys)) zero d up inside = absurd (omega arith)
none_above (x ∷ (y ∷ ys)) (suc i) d up inside =
    let xs : List ProcId = y ∷ ys in
    let p : ProcId = get_or xs i d in
    let above : nat_lt p.0 x.0 ≡ false = le-ltb p.0 x.0 (let h : x.0 < p.0 = up 0 (suc i) d (omega arith) (omega arith) in omega arith) in
    cond-false (nat_lt p.0 x.0) (Some x) (find (λ (q : ProcId). nat_lt p.0 q.0) xs) above
    ∙ none_above xs i d (all_pairs-tail (λ a b. a.0 < b.0) x xs up) (omega arith)

-- the place behind another in a cycle
pub behind_mod : (i n : ℕ) → i < n → ((i + 1 < n) × ((i + 1) % n ≡ i + 1)) ⊎ ((i + 1 ≡ n) × ((i + 1) % n ≡ 0))
behind_mod i n inside =
    let cases : (i + 1 < n) ⊎ (n ≤ i + 1) = cases_lt (i + 1) n in
    elim cases [
      | inl less ↦ inl (less, mod-eq_of_lt less)
      | inr at ↦
          let e : i + 1 ≡ n = omega arith in
          let P : ℕ → Type 0 = λ m. m % n ≡ 0 in
          inr (e, subst P (sym e) (mod_self n))
    ]

pub next_in_cycle : (live : List ProcId) (i : ℕ) → Ascend live → i < length live → next_live live (in_cycle live i) ≡ in_cycle live (i + 1)
next_in_cycle live i up inside =
    let none : ProcId = record { 0 = 0 } in
    let here : i % length live ≡ i = mod-eq_of_lt inside in
    let P : ℕ → Type 0 = λ k. next_live live (get_or live k none) ≡ in_cycle live (i + 1) in
    let at : P i =
    elim (behind_mod i (length live) inside) [
      | inl more ↦
          ap (λ o. unwrap_or o (get_or live 0 none)) (found_above live i none up more.0) ∙ ap (λ k. get_or live k none) (let e : suc i ≡ (i + 1) % length live = omega (arith, more.1) in e)
      | inr last ↦
          ap (λ o. unwrap_or o (get_or live 0 none)) (none_above live i none up last.0) ∙ ap (λ k. get_or live k none) (sym last.1)
    ] in
    subst P (sym here) at

pub goes_one_on : (loads : List Load) (live : List ProcId) → Ascend live → GoesOneOn loads live (rotated loads live)
goes_one_on loads live up k i d e inside within at =
    get_or-map (λ (l : Load). next_live live l.place) loads k d e inside ∙ ap (next_live live) at ∙ next_in_cycle live i up within

-- a live processor stands somewhere in the cycle
pub somewhere : (live : List ProcId) (p : ProcId) → Contains live p → (i : ℕ) × (i < length live) × (p ≡ in_cycle live i)
somewhere live p here =
    let none : ProcId = record { 0 = 0 } in
    let i : ℕ = here.0 in
    let inside : i < length live = here.1 in
    let at : p ≡ get_or live i none = sym here.2 ∙ at_any live i p none inside in
    (i, inside, at ∙ ap (λ k. get_or live k none) (sym (mod-eq_of_lt inside)))

pub in_cycle_is_live : (live : List ProcId) (i : ℕ) → 0 < length live → Contains live (in_cycle live i)
in_cycle_is_live live i some = let none : ProcId = record { 0 = 0 } in Contains-get_or live (i % length live) none (mod-lt i some)

pub rotated_is_live : (loads : List Load) (live : List ProcId) → AreLoads loads live → All (λ p. Contains live p) (rotated loads live)
rotated_is_live loads live asked =
    All-map (λ p. Contains live p) (λ (l : Load). next_live live l.place) loads
    (λ k d inside.
    let s = somewhere live (get_or loads k d).place (asked.at_live k d inside) in
    let P : ProcId → Type 0 = λ p. Contains live p in
    subst P (sym (ap (next_live live) s.2 ∙ next_in_cycle live s.0 asked.ascending s.1)) (in_cycle_is_live live (s.0 + 1) asked.some_live))

pub differ : (live : List ProcId) (a b : ℕ) (d : ProcId) → Ascend live → a < length live → b < length live → (a ≡ b → ⊥) → (get_or live a d).0 ≡ (get_or live b d).0 → ⊥
differ live a b d up a_in b_in other same =
    let cases : (a < b) ⊎ (b ≤ a) = cases_lt a b in
    elim cases [
      | inl less ↦ (let h : (get_or live a d).0 < (get_or live b d).0 = up a b d less b_in in omega arith)
      | inr more ↦ (let h : (get_or live b d).0 < (get_or live a d).0 = up b a d (omega arith) a_in in omega arith)
    ]

pub behind_differ : (i j n : ℕ) → i < n → j < n → (i ≡ j → ⊥) → (i + 1) % n ≡ (j + 1) % n → ⊥
behind_differ i j n i_in j_in other same =
    elim (behind_mod i n i_in) [
      | inl a ↦ elim (behind_mod j n j_in) [ inl b ↦ omega (arith, a.1, b.1, same) | inr b ↦ omega (arith, a.1, b.1, same) ]
      | inr a ↦ elim (behind_mod j n j_in) [ inl b ↦ omega (arith, a.1, b.1, same) | inr b ↦ omega (arith, a.0, b.0) ]
    ]

-- whether two live processors are one is seen one place on too
pub same_one_on : (live : List ProcId) (i j : ℕ) → Ascend live → i < length live → j < length live
    → nat_eq (in_cycle live (j + 1)).0 (in_cycle live (i + 1)).0 ≡ nat_eq (in_cycle live j).0 (in_cycle live i).0
same_one_on live i j up i_in j_in =
    let none : ProcId = record { 0 = 0 } in
    let n : ℕ = length live in
    let some : 0 < n = omega arith in
    let cases : (j ≡ i) ⊎ (j ≡ i → ⊥) = cases_eq j i in
    elim cases [
      | inl e ↦
          eq-eqb (in_cycle live (j + 1)).0 (in_cycle live (i + 1)).0 (ap (λ k. (in_cycle live (k + 1)).0) e)
          ∙ sym (eq-eqb (in_cycle live j).0 (in_cycle live i).0 (ap (λ k. (in_cycle live k).0) e))
      | inr other ↦
          let here : j % n ≡ i % n → ⊥ = λ h. other (sym (mod-eq_of_lt j_in) ∙ h ∙ mod-eq_of_lt i_in) in
          ne_eqb (in_cycle live (j + 1)).0 (in_cycle live (i + 1)).0
          (differ live ((j + 1) % n) ((i + 1) % n) none up (mod-lt (j + 1) some) (mod-lt (i + 1) some) (behind_differ j i n j_in i_in other))
          ∙ sym (ne_eqb (in_cycle live j).0 (in_cycle live i).0 (differ live (j % n) (i % n) none up (mod-lt j some) (mod-lt i some) here))
    ]

pub loads_go_one_on : (loads : List Load) (live : List ProcId) → AreLoads loads live → LoadsGoOneOn loads live (rotated loads live)
loads_go_one_on loads live asked i i_in =
    let none : ProcId = record { 0 = 0 } in
    sum_by-same (brought (rotated loads live) (in_cycle live (i + 1))) (brought (places loads) (in_cycle live i)) loads
    (λ k d inside.
    let l : Load = get_or loads k d in
    let s = somewhere live l.place (asked.at_live k d inside) in
    let rank : l.rank.0 ≡ k = asked.by_rank k d inside in
    let new : place_in (rotated loads live) l.rank ≡ in_cycle live (s.0 + 1) =
    ap (λ m. get_or (rotated loads live) m none) rank ∙ goes_one_on loads live asked.ascending k s.0 d none inside s.1 s.2 in
    let old : place_in (places loads) l.rank ≡ in_cycle live s.0 =
    ap (λ m. get_or (places loads) m none) rank ∙ get_or-map (λ (m : Load). m.place) loads k d none inside ∙ s.2 in
    let test : nat_eq (place_in (rotated loads live) l.rank).0 (in_cycle live (i + 1)).0 ≡ nat_eq (place_in (places loads) l.rank).0 (in_cycle live i).0 =
    ap (λ (p : ProcId). nat_eq p.0 (in_cycle live (i + 1)).0) new ∙ same_one_on live i s.0 asked.ascending i_in s.1
    ∙ sym (ap (λ (p : ProcId). nat_eq p.0 (in_cycle live i).0) old) in
    ap (λ (b : Bool). cond b l.ticks 0) test)

pub all_rotated : (loads : List Load) (live plan : List ProcId) (i : ℕ) → length loads ≤ i → plan ≡ rotated (take i loads) live → plan ≡ rotated loads live
all_rotated loads live plan i past is = is ∙ ap (λ xs. rotated xs live) (take_all i loads past)
