-- A turn of the greedy rule, and what holds after all turns.
use Rattle.std.proofs.Common.{◌≡◌, ℕ, zero, suc, ◌+◌, ◌*◌, ◌-◌, ◌^◌, ◌<◌, ◌≤◌, ◌⊎◌, inl, inr, Bool, true, false, cond, ◌&&◌, List, [], ◌∷◌, ◌++◌, length, map, get_or, set, take, drop, refl, sym, ◌∙◌, ap, subst, arith, length-take, length-drop, append-nil, drop_of_length-le}
use Rattle.std.specs.Prelude.{nat_eq, nat_lt}
use Rattle.std.specs.List.{All, Contains, sum_by}
use Rattle.std.specs.List.Sorted.{IsPermutation}
use Rattle.std.specs.declared.cmp.Reverse.{Reverse}
use Rattle.std.proofs.lemmas.Bool.{cases_Bool, eqb-true, eq-eqb, cond-true, cond-false, cases_cond, cases_lt, cases_eq, lt-ltb, and_from, or_left, or_right, ltb-false, le-ltb, or_parts, and_cases, and_right, or_from}
use Rattle.std.proofs.Math.Nat.{mul-le-mul_left, mul-add, suc-mul}
use Rattle.std.proofs.Math.Seq.{take-length}
use Rattle.std.proofs.lemmas.List.{get_or-take, get_or-drop, get_or-set_other, get_or-set_same, length-map}
use Rattle.std.proofs.lemmas.List.Elements.{Contains-get_or}
use Rattle.std.proofs.lemmas.List.Sorted.{IsPermutation-sym, All-permutation, sum_by-IsPermutation, length_permutation}
use Rattle.std.proofs.lemmas.List.Sums.{sum_by-cons, sum_by_more, sum_by-take-drop}
use Rattle.am_base.specs.declared.numbers.ProcId.{ProcId}
use Rattle.balancers.specs.declared.loads.Load.{Load}
use Rattle.balancers.specs.Loads.{AreByRank, AreLoads, places, goes_before, place_in, brought, load_on, total, heaviest, IsLeast}
use Rattle.balancers.specs.Spreading.{load_before, IsSpreadGreedily, IsNearShare}
use Rattle.balancers.specs.Turns.{AreHeaviestFirst, AreDistinct, AreSpread, Ascend, Holds, given, so_far}
use Rattle.balancers.proofs.SumLemmas.{sum_by-same, sum_by-more, sum_by-none, sum_by-plus, sum_by-at_least, one_at_most, greatest-below, all-at_most_greatest, distinct_order}
use Rattle.balancers.proofs.StandingLemmas.{holds_same}

pub least_same : (f g : ProcId → ℕ) (live : List ProcId) (p : ProcId) → ((q : ProcId) → f q ≡ g q) → IsLeast f live p → IsLeast g live p
least_same f g live p same is = record {
  is_live = is.is_live;
  least = λ q here. omega (arith, is.least q here, same p, same q);
  first = λ q here tie. is.first q here (same q ∙ tie ∙ sym (same p));
}

-- a rank that brings its ticks, or nothing
pub brought-at_most : (plan : List ProcId) (p : ProcId) (l : Load) → brought plan p l ≤ l.ticks
brought-at_most plan p l =
    elim (cases_cond (nat_eq (place_in plan l.rank).0 p.0) l.ticks 0 (brought plan p l) refl) [ inl e ↦ omega (arith, e) | inr e ↦ omega (arith, e) ]

pub so_far-at_most : (plan : List ProcId) (order : List Load) (k : ℕ) (p : ProcId) → so_far plan order k p ≤ total (take k order)
so_far-at_most plan order k p =
    sum_by-more (brought plan p) (λ l. l.ticks) (take k order) (λ j d inside. brought-at_most plan p (get_or (take k order) j d))

-- a write at another rank's place changes nothing for a rank
pub brought-other : (plan : List ProcId) (r : ℕ) (q p : ProcId) (l : Load) → (l.rank.0 ≡ r → ⊥) → brought (set plan r q) p l ≡ brought plan p l
brought-other plan r q p l other =
    let none : ProcId = record { 0 = 0 } in
    ap (λ (x : ProcId). cond (nat_eq x.0 p.0) l.ticks 0) (get_or-set_other plan r l.rank.0 q none other)

module _ (live : List ProcId) (order : List Load) (distinct : AreDistinct order) (i : ℕ) (plan : List ProcId) (l : Load) (p : ProcId)
    (inside : i < length order) (is : (d : Load) → get_or order i d ≡ l) where
  pub so_far-other : (k : ℕ) (q : ProcId) → k ≤ i → so_far (set plan l.rank.0 p) order k q ≡ so_far plan order k q
  so_far-other k q up =
      sum_by-same (brought (set plan l.rank.0 p) q) (brought plan q) (take k order)
      (λ j d within.
      let below : j < k = omega (arith, within, length-take k order) in
      let at : get_or (take k order) j d ≡ get_or order j d = get_or-take k order j d below in
      brought-other plan l.rank.0 p q (get_or (take k order) j d)
      (λ e. distinct j i d (omega arith) inside (ap (λ (m : Load). m.rank.0) (sym at) ∙ e ∙ ap (λ (m : Load). m.rank.0) (sym (is d)))))

  pub placed_there : l.rank.0 < length plan → place_in (set plan l.rank.0 p) l.rank ≡ p
  placed_there known = let none : ProcId = record { 0 = 0 } in get_or-set_same plan l.rank.0 p none known

  pub so_far-next : (q : ProcId) → l.rank.0 < length plan → given (so_far plan order i) p l.ticks q ≡ so_far (set plan l.rank.0 p) order (i + 1) q
  so_far-next q known =
      let new : List ProcId = set plan l.rank.0 p in
      let own : brought new q l ≡ cond (nat_eq p.0 q.0) l.ticks 0 = ap (λ (x : ProcId). cond (nat_eq x.0 q.0) l.ticks 0) (placed_there known) in
      omega (arith, own, ap (brought new q) (is l), so_far-other i q (omega arith), sum_by_more (brought new q) order i l inside)

  pub spread_more : l.rank.0 < length plan → AreSpread live order i plan → IsLeast (so_far plan order i) live p
      → AreSpread live order (i + 1) (set plan l.rank.0 p)
  spread_more known done least = record {
    turns = λ k d below.
        let new : List ProcId = set plan l.rank.0 p in
        let none : ProcId = record { 0 = 0 } in
        let split : (k < i) ⊎ (i ≤ k) = cases_lt k i in
        elim split [
          | inl earlier ↦
              let P : ProcId → Type 0 = λ x. IsLeast (so_far new order k) live x in
              let other : (get_or order k d).rank.0 ≡ l.rank.0 → ⊥ = λ e. distinct k i d earlier inside (e ∙ ap (λ (m : Load). m.rank.0) (sym (is d))) in
              let stays : place_in new (get_or order k d).rank ≡ place_in plan (get_or order k d).rank = get_or-set_other plan l.rank.0 (get_or order k d).rank.0 p none other in
              subst P (sym stays) (least_same (so_far plan order k) (so_far new order k) live (place_in plan (get_or order k d).rank) (λ q. sym (so_far-other k q (omega arith))) (done.turns k d earlier))
          | inr late ↦
              let e : k ≡ i = omega arith in
              let P : ProcId → Type 0 = λ x. IsLeast (so_far new order i) live x in
              let Q : ℕ → Type 0 = λ n. IsLeast (so_far new order n) live (place_in new (get_or order n d).rank) in
              let there : place_in new (get_or order i d).rank ≡ p = ap (λ (m : Load). place_in new m.rank) (is d) ∙ placed_there known in
              subst Q (sym e) (subst P (sym there) (least_same (so_far plan order i) (so_far new order i) live p (λ q. sym (so_far-other i q (omega arith))) least))
        ];
  }

pub heap_some : (load : ProcId → ℕ) (live : List ProcId) (items : List (Reverse (ℕ × ProcId))) → Holds load live items → 0 < length live → 0 < length items
heap_some load live items holds some =
    omega (arith, length_permutation live (map (λ (x : Reverse (ℕ × ProcId)). x.0.1) items) holds.each_once, length-map items (λ (x : Reverse (ℕ × ProcId)). x.0.1))

pub heap_room : (plan live : List ProcId) (order : List Load) (i t : ℕ) (items : List (Reverse (ℕ × ProcId)))
    → Holds (so_far plan order i) live items → total (take i order) ≤ i * 2 ^ 64 → i < 2 ^ 63 → t < 2 ^ 64
    → All (λ x. x.0.0 + t < 2 ^ 128) items
heap_room plan live order i t items holds small few fits = λ k d inside.
    omega (arith, holds.told k d inside, so_far-at_most plan order i (get_or items k d).0.1)

pub total_more : (order : List Load) (i : ℕ) (e : Load) → i < length order → total (take i order) ≤ i * 2 ^ 64 → (get_or order i e).ticks < 2 ^ 64
    → total (take (i + 1) order) ≤ (i + 1) * 2 ^ 64
total_more order i e inside small fits = omega (arith, sum_by_more (λ m. m.ticks) order i e inside)

pub spread_none : (live : List ProcId) (order : List Load) (plan : List ProcId) → AreSpread live order 0 plan
spread_none live order plan = record { turns = λ k d below. absurd (omega arith) }

-- an element within is the same at each default
pub at_any : {X : Type 0} (xs : List X) (i : ℕ) (d e : X) → i < length xs → get_or xs i d ≡ get_or xs i e
at_any [] i d e inside = absurd (omega arith)
at_any (x ∷ xs) zero d e inside = refl
at_any (x ∷ xs) (suc i) d e inside = at_any xs i d e (omega arith)

pub turn : (live : List ProcId) (order : List Load) (distinct : AreDistinct order) (i : ℕ) (plan : List ProcId) (e : Load) (p : ProcId)
    (items : List (Reverse (ℕ × ProcId)))
    → i < length order → All (λ l. l.rank.0 < length plan) order → AreSpread live order i plan
    → IsLeast (so_far plan order i) live p × Holds (given (so_far plan order i) p (get_or order i e).ticks) live items
    → AreSpread live order (i + 1) (set plan (get_or order i e).rank.0 p) × Holds (so_far (set plan (get_or order i e).rank.0 p) order (i + 1)) live items
turn live order distinct i plan e p items inside known done taken =
    let l : Load = get_or order i e in
    let is : (d : Load) → get_or order i d ≡ l = λ d. at_any order i d e inside in
    let there : l.rank.0 < length plan = known i e inside in (
      spread_more live order distinct i plan l p inside is there done taken.0,
      holds_same (given (so_far plan order i) p l.ticks) (so_far (set plan l.rank.0 p) order (i + 1)) live items
          (λ q. so_far-next live order distinct i plan l p inside is q there) taken.1,
    )

-- of two different ranks one goes before the other
pub one_goes_before : (a b : Load) → goes_before b a ≡ false → (a.rank.0 ≡ b.rank.0 → ⊥) → goes_before a b ≡ true
one_goes_before a b not_later other =
    let parts : (nat_lt a.ticks b.ticks ≡ false) × ((nat_eq a.ticks b.ticks && nat_lt b.rank.0 a.rank.0) ≡ false) =
    or_parts (nat_lt a.ticks b.ticks) (nat_eq a.ticks b.ticks && nat_lt b.rank.0 a.rank.0) not_later in
    let no_less : b.ticks ≤ a.ticks = ltb-false a.ticks b.ticks parts.0 in
    let cases : (a.ticks ≡ b.ticks) ⊎ (a.ticks ≡ b.ticks → ⊥) = cases_eq a.ticks b.ticks in
    elim cases [
      | inl same ↦
          let no_rank : nat_lt b.rank.0 a.rank.0 ≡ false =
          elim (and_cases (nat_eq a.ticks b.ticks) (nat_lt b.rank.0 a.rank.0) parts.1) [ inl no_tie ↦ absurd (let tie : nat_eq a.ticks b.ticks ≡ true = eq-eqb a.ticks b.ticks same in cc) | inr none ↦ none ] in
          let rank_up : a.rank.0 ≤ b.rank.0 = ltb-false b.rank.0 a.rank.0 no_rank in
          or_right (nat_lt b.ticks a.ticks) (nat_eq b.ticks a.ticks && nat_lt a.rank.0 b.rank.0)
          (and_from (nat_eq b.ticks a.ticks) (nat_lt a.rank.0 b.rank.0) (eq-eqb b.ticks a.ticks (sym same)) (lt-ltb a.rank.0 b.rank.0 (omega arith)))
      | inr differ ↦ or_left (nat_lt b.ticks a.ticks) (nat_eq b.ticks a.ticks && nat_lt a.rank.0 b.rank.0) (lt-ltb b.ticks a.ticks (omega arith))
    ]

pub not_before_itself : (a : Load) → goes_before a a ≡ false
not_before_itself a = or_from (nat_lt a.ticks a.ticks) (nat_eq a.ticks a.ticks && nat_lt a.rank.0 a.rank.0) (le-ltb a.ticks a.ticks (omega arith)) (and_right (nat_eq a.ticks a.ticks) (nat_lt a.rank.0 a.rank.0) (le-ltb a.rank.0 a.rank.0 (omega arith)))

-- what goes before the rank at place k of the order is what stands before it
pub before_is_so_far : (plan : List ProcId) (order : List Load) → AreHeaviestFirst order → AreDistinct order → (k : ℕ) (d : Load) (p : ProcId) → k < length order
    → load_before plan order (get_or order k d) p ≡ so_far plan order k p
before_is_so_far plan order sorted distinct k d p inside =
    let l : Load = get_or order k d in
    let f : Load → ℕ = λ m. cond (goes_before m l && nat_eq (place_in plan m.rank).0 p.0) m.ticks 0 in
    let front : sum_by f (take k order) ≡ sum_by (brought plan p) (take k order) =
    sum_by-same f (brought plan p) (take k order)
    (λ j e within.
    let below : j < k = omega (arith, within, length-take k order) in
    let m : Load = get_or (take k order) j e in
    let at : m ≡ get_or order j d = get_or-take k order j e below ∙ at_any order j e d (omega arith) in
    let later : goes_before l (get_or order j d) ≡ false = sorted j k d below inside in
    let first : goes_before (get_or order j d) l ≡ true = one_goes_before (get_or order j d) l later (distinct j k d below inside) in
    let yes_before : goes_before m l ≡ true = ap (λ (x : Load). goes_before x l) at ∙ first in
    ap (λ (b : Bool). cond (b && nat_eq (place_in plan m.rank).0 p.0) m.ticks 0) yes_before) in
    let back : sum_by f (drop k order) ≡ 0 =
    sum_by-none f (drop k order)
    (λ j e within.
    let m : Load = get_or (drop k order) j e in
    let bound : k + j < length order = omega (arith, within, length-drop k order) in
    let at : m ≡ get_or order (k + j) d = get_or-drop k order j e ∙ at_any order (k + j) e d bound in
    let cases : (0 < j) ⊎ (j ≤ 0) = cases_lt 0 j in
    let not_first : goes_before (get_or order (k + j) d) l ≡ false =
    elim cases [
      | inl some ↦ sorted k (k + j) d (omega arith) bound
      | inr none ↦
          let P : ℕ → Type 0 = λ n. goes_before (get_or order n d) l ≡ false in
          let e : k ≡ k + j = omega arith in
          subst P e (not_before_itself l)
    ] in
    let no_before : goes_before m l ≡ false = ap (λ (x : Load). goes_before x l) at ∙ not_first in
    ap (λ (b : Bool). cond (b && nat_eq (place_in plan m.rank).0 p.0) m.ticks 0) no_before) in
    omega (arith, front, back, sum_by-take-drop f order k)

pub spread_is : (loads order : List Load) (live plan : List ProcId) → length plan ≡ length loads → IsPermutation loads order
    → AreHeaviestFirst order → AreDistinct order → AreSpread live order (length order) plan → IsSpreadGreedily loads live plan
spread_is loads order live plan long moved sorted distinct done = record {
  long = long;
  by_turns =
      All-permutation (λ l. IsLeast (load_before plan loads l) live (place_in plan l.rank)) order loads (IsPermutation-sym loads order moved)
      (λ k d inside.
      let l : Load = get_or order k d in
      least_same (so_far plan order k) (load_before plan loads l) live (place_in plan l.rank)
      (λ q.
      let f : Load → ℕ = λ m. cond (goes_before m l && nat_eq (place_in plan m.rank).0 q.0) m.ticks 0 in
      sym (before_is_so_far plan order sorted distinct k d q inside) ∙ sum_by-IsPermutation f loads order moved)
      (done.turns k d inside));
}

-- the loads of the live processors together are no more than the total
pub loads_together : (plan live : List ProcId) (order : List Load) → Ascend live → sum_by (load_on plan order) live ≤ total order
loads_together plan live [] up = omega (arith, sum_by-none (load_on plan []) live (λ k d inside. refl))
loads_together plan live (l ∷ order) up =
    let f : ProcId → ℕ = λ q. brought plan q l in
    let g : ProcId → ℕ = load_on plan order in
    let split : sum_by (load_on plan (l ∷ order)) live ≡ sum_by (λ q. f q + g q) live =
    sum_by-same (load_on plan (l ∷ order)) (λ q. f q + g q) live (λ k d inside. sum_by-cons (brought plan (get_or live k d)) l order) in
    omega (arith, split, sum_by-plus f g live, one_at_most live (place_in plan l.rank) l.ticks up, loads_together plan live order up, sum_by-cons (λ (m : Load). m.ticks) l order)

-- the least loaded has no more than its share
pub share_of_least : (plan live : List ProcId) (order : List Load) (p : ProcId) → Ascend live → IsLeast (load_on plan order) live p
    → length live * load_on plan order p ≤ total order
share_of_least plan live order p up least =
    omega (arith, sum_by-at_least (load_on plan order) (load_on plan order p) live (λ k d inside. least.least (get_or live k d) (Contains-get_or live k d inside)), loads_together plan live order up)

pub share_step : (n load t h sum : ℕ) → n * load ≤ sum → t ≤ h → 0 < n → n * (load + t) ≤ sum + t + (n - 1) * h
share_step zero load t h sum share up some = absurd (omega arith)
share_step (suc n) load t h sum share up some =
    let e : suc n - 1 ≡ n = omega arith in
    let more : n * t ≤ n * h = mul-le-mul_left n up in
    rw e (omega (arith, share, more, mul-add (suc n) load t, suc-mul n t))

pub near_share : (live : List ProcId) (plan : List ProcId) (order : List Load) (h : ℕ) → Ascend live → 0 < length live
    → All (λ l. l.ticks ≤ h) order → AreSpread live order (length order) plan
    → (k : ℕ) → k ≤ length order → (q : ProcId) → Contains live q → length live * so_far plan order k q ≤ total (take k order) + (length live - 1) * h
near_share live plan order h up some light done zero inside q here = omega arith
near_share live plan order h up some light done (suc k) inside q here =
    let d : Load = record { rank = record { 0 = 0 }; place = record { 0 = 0 }; ticks = 0 } in
    let l : Load = get_or order k d in
    let p : ProcId = place_in plan l.rank in
    let within : k < length order = omega arith in
    let least : IsLeast (so_far plan order k) live p = done.turns k d within in
    let step : so_far plan order (k + 1) q ≡ so_far plan order k q + brought plan q l = sum_by_more (brought plan q) order k d within in
    let sum_step : total (take (k + 1) order) ≡ total (take k order) + l.ticks = sum_by_more (λ (m : Load). m.ticks) order k d within in
    let P : ℕ → Type 0 = λ n. length live * so_far plan order n q ≤ total (take n order) + (length live - 1) * h in
    let cases : (nat_eq p.0 q.0 ≡ true) ⊎ (nat_eq p.0 q.0 ≡ false) = cases_Bool (nat_eq p.0 q.0) in
    let next : P (k + 1) =
    elim cases [
      | inl e ↦
          let own : brought plan q l ≡ l.ticks = cond-true (nat_eq p.0 q.0) l.ticks 0 e in
          let no_more : so_far plan order k q ≡ so_far plan order k p = ap (λ n. so_far plan order k (record { 0 = n })) (sym (eqb-true p.0 q.0 e)) in
          let share : length live * so_far plan order k p ≤ total (take k order) = share_of_least plan live (take k order) p up least in
          let is : so_far plan order (k + 1) q ≡ so_far plan order k p + l.ticks = omega (arith, step, own, no_more) in
          rw (is, sum_step) (share_step (length live) (so_far plan order k p) l.ticks h (total (take k order)) share (light k d within) some)
      | inr e ↦
          let other : brought plan q l ≡ 0 = cond-false (nat_eq p.0 q.0) l.ticks 0 e in
          let is : so_far plan order (k + 1) q ≡ so_far plan order k q = omega (arith, step, other) in
          rw (is, sum_step) (omega (arith, near_share live plan order h up some light done k (omega arith) q here))
    ] in
    let e : k + 1 ≡ suc k = omega arith in
    subst P e next

pub near_share_is : (loads order : List Load) (live plan : List ProcId) → IsPermutation loads order → Ascend live → 0 < length live
    → AreSpread live order (length order) plan → IsNearShare loads live plan
near_share_is loads order live plan moved up some done =
    let h : ℕ = heaviest loads in
    let light : All (λ l. l.ticks ≤ h) order =
    All-permutation (λ l. l.ticks ≤ h) loads order moved (all-at_most_greatest (λ (l : Load). l.ticks) h loads (omega arith)) in
    let whole : take (length order) order ≡ order = take-length order in
    let bound : All (λ q. length live * load_on plan loads q ≤ total loads + (length live - 1) * h) live =
    λ k d inside.
    let q : ProcId = get_or live k d in
    let at : length live * so_far plan order (length order) q ≤ total (take (length order) order) + (length live - 1) * h =
    near_share live plan order h up some light done (length order) (omega arith) q (Contains-get_or live k d inside) in
    let P : List Load → Type 0 = λ xs. length live * sum_by (brought plan q) xs ≤ total xs + (length live - 1) * h in
    let there : P order = subst P whole at in
    let same_load : load_on plan order q ≡ load_on plan loads q = sum_by-IsPermutation (brought plan q) loads order moved in
    let same_total : total order ≡ total loads = sum_by-IsPermutation (λ (l : Load). l.ticks) loads order moved in
    rw (sym same_load, sym same_total) there in
    greatest-below (load_on plan loads) (length live) (total loads + (length live - 1) * h) live bound

-- where each rank's place is live, each place of the plan is
pub plan_is_live : (loads : List Load) (live plan : List ProcId) → AreByRank loads → length plan ≡ length loads
    → All (λ l. Contains live (place_in plan l.rank)) loads → All (λ p. Contains live p) plan
plan_is_live loads live plan by_rank long each = λ k d inside.
    let e : Load = record { rank = record { 0 = 0 }; place = record { 0 = 0 }; ticks = 0 } in
    let none : ProcId = record { 0 = 0 } in
    let within : k < length loads = omega arith in
    let P : ℕ → Type 0 = λ n. Contains live (get_or plan n none) in
    let Q : ProcId → Type 0 = λ p. Contains live p in
    subst Q (at_any plan k none d inside) (subst P (by_rank k e within) (each k e within))

pub known_ranks : (loads order : List Load) (n : ℕ) → AreByRank loads → IsPermutation loads order → n ≡ length loads → All (λ l. l.rank.0 < n) order
known_ranks loads order n by_rank moved long =
    All-permutation (λ l. l.rank.0 < n) loads order moved (λ k d inside. omega (arith, by_rank k d inside))

-- a plan that was written through a slice of it
pub written : (n : ℕ) (old new : List ProcId) → n ≡ length old → length new ≡ length old → take n (new ++ drop (length new) old) ≡ new
written n old new len same =
    let gone : drop (length new) old ≡ [] = drop_of_length-le old (omega arith) in
    rw (gone, append-nil) (let e : n ≡ length new = omega arith in rw e (take-length new))

pub greedy_is : (loads order : List Load) (live plan : List ProcId) → AreLoads loads live → length plan ≡ length loads → IsPermutation loads order
    → AreHeaviestFirst order → AreSpread live order (length order) plan
    → IsSpreadGreedily loads live plan × (All (λ p. Contains live p) plan × IsNearShare loads live plan)
greedy_is loads order live plan asked long moved sorted done =
    let distinct : AreDistinct order = distinct_order loads order asked.by_rank moved in
    let is : IsSpreadGreedily loads live plan = spread_is loads order live plan long moved sorted distinct done in (
      is,
      (
        plan_is_live loads live plan asked.by_rank long (λ k d inside. (is.by_turns k d inside).is_live),
        near_share_is loads order live plan moved asked.ascending asked.some_live done,
      ),
    )

-- what the code ends with
pub greedy_ends : (loads order seen : List Load) (live old slice new plan : List ProcId) (len : ℕ) → AreLoads loads live → old ≡ places loads
    → IsPermutation loads order → AreHeaviestFirst order → seen ≡ order → slice ≡ old → length new ≡ length slice → len ≡ length old
    → AreSpread live seen (length seen) new → plan ≡ take len (new ++ drop (length new) old)
    → IsSpreadGreedily loads live plan × (All (λ p. Contains live p) plan × IsNearShare loads live plan)
greedy_ends loads order seen live old slice new plan len asked old_is moved sorted seen_is slice_is kept len_is done plan_is =
    let same_len : length new ≡ length old = kept ∙ ap length slice_is in
    let is : plan ≡ new = plan_is ∙ written len old new len_is same_len in
    let long : length plan ≡ length loads = ap length is ∙ same_len ∙ ap length old_is ∙ length-map loads (λ (l : Load). l.place) in
    let P : List Load → Type 0 = λ xs. AreSpread live xs (length xs) new in
    let Q : List ProcId → Type 0 = λ xs. AreSpread live order (length order) xs in
    greedy_is loads order live plan asked long moved sorted (subst Q (sym is) (subst P seen_is done))
