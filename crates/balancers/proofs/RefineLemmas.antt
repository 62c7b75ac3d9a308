-- What a move of the refining rule does to the loads, and what holds after all moves.
use Rattle.std.proofs.Common.{◌≡◌, ℕ, zero, suc, ◌+◌, ◌<◌, ◌≤◌, ◌⊎◌, inl, inr, true, false, cond, List, length, map, get_or, set, take, drop, sym, ◌∙◌, ap, subst, arith, length-take, length-drop, length-set}
use Rattle.std.specs.Prelude.{nat_eq, nat_lt}
use Rattle.std.specs.List.{All, Contains, sum_by}
use Rattle.std.proofs.lemmas.Bool.{cases_Bool, cases_lt, lt-ltb, ltb-true, ltb-false, eqb-true, cond-true, cond-false}
use Rattle.std.proofs.lemmas.List.{get_or-take, get_or-drop, get_or-set_same, get_or-map, length-map}
use Rattle.std.proofs.lemmas.List.Elements.{Contains-get_or}
use Rattle.std.proofs.lemmas.List.Sums.{sum_by-take-drop, sum_by-drop_more}
use Rattle.am_base.specs.declared.numbers.ProcId.{ProcId}
use Rattle.balancers.specs.declared.loads.Load.{Load}
use Rattle.balancers.specs.Loads.{AreByRank, place_in, brought, load_on, greatest_load, IsMost}
use Rattle.balancers.specs.Refining.{IsMove, Moves, HasNoMove}
use Rattle.std.specs.List.Sorted.{IsPartitionedBy}
use Rattle.balancers.specs.Steps.{IsFirstGreatest, proc_at}
use Rattle.balancers.specs.Turns.{Ascend}
use Rattle.balancers.proofs.SumLemmas.{sum_by-same, greatest-at_most, all-at_most_greatest}
use Rattle.balancers.proofs.SpreadLemmas.{brought-other, at_any}

-- What a processor has after a rank went from one to another, and what it had.
pub load_moved : (loads : List Load) (plan : List ProcId) (from to : ProcId) (l : Load) (q : ProcId)
    → AreByRank loads → Contains loads l → length plan ≡ length loads → place_in plan l.rank ≡ from
    → load_on (set plan l.rank.0 to) loads q + cond (nat_eq from.0 q.0) l.ticks 0
    ≡ load_on plan loads q + cond (nat_eq to.0 q.0) l.ticks 0
load_moved loads plan from to l q by_rank here long was =
    let r : ℕ = here.0 in
    let inside : r < length loads = here.1 in
    let at : get_or loads r l ≡ l = here.2 in
    let rank : l.rank.0 ≡ r = ap (λ (m : Load). m.rank.0) (sym at) ∙ by_rank r l inside in
    let new : List ProcId = set plan l.rank.0 to in
    let f : Load → ℕ = brought new q in
    let g : Load → ℕ = brought plan q in
    let none : ProcId = record { 0 = 0 } in
    let there : place_in new l.rank ≡ to = get_or-set_same plan l.rank.0 to none (omega arith) in
    let own_new : f l ≡ cond (nat_eq to.0 q.0) l.ticks 0 = ap (λ (p : ProcId). cond (nat_eq p.0 q.0) l.ticks 0) there in
    let own_old : g l ≡ cond (nat_eq from.0 q.0) l.ticks 0 = ap (λ (p : ProcId). cond (nat_eq p.0 q.0) l.ticks 0) was in
    let front : sum_by f (take r loads) ≡ sum_by g (take r loads) =
    sum_by-same f g (take r loads)
    (λ j d within.
    let below : j < r = omega (arith, within, length-take r loads) in
    let m : Load = get_or (take r loads) j d in
    let is : m ≡ get_or loads j d = get_or-take r loads j d below in
    let m_rank : m.rank.0 ≡ j = ap (λ (x : Load). x.rank.0) is ∙ by_rank j d (omega arith) in
    brought-other plan l.rank.0 to q m (λ e. absurd (omega (arith, m_rank, rank, e)))) in
    let back : sum_by f (drop (r + 1) loads) ≡ sum_by g (drop (r + 1) loads) =
    sum_by-same f g (drop (r + 1) loads)
    (λ j d within.
    let m : Load = get_or (drop (r + 1) loads) j d in
    let bound : r + 1 + j < length loads = omega (arith, within, length-drop (r + 1) loads) in
    let is : m ≡ get_or loads (r + 1 + j) d = get_or-drop (r + 1) loads j d in
    let m_rank : m.rank.0 ≡ r + 1 + j = ap (λ (x : Load). x.rank.0) is ∙ by_rank (r + 1 + j) d bound in
    brought-other plan l.rank.0 to q m (λ e. absurd (omega (arith, m_rank, rank, e)))) in
    omega (
      arith,
      front,
      back,
      own_new,
      own_old,
      ap f at,
      ap g at,
      sum_by-take-drop f loads r,
      sum_by-take-drop g loads r,
      sum_by-drop_more f loads r l inside,
      sum_by-drop_more g loads r l inside,
    )

-- one move makes no processor's load greater than the greatest was
pub move_no_greater : (loads : List Load) (live plan next : List ProcId) (limit : ℕ) → AreByRank loads → length plan ≡ length loads
    → IsMove loads live limit plan next → greatest_load next loads live ≤ greatest_load plan loads live
move_no_greater loads live plan next limit by_rank long move =
    let bound : All (λ q. load_on plan loads q ≤ greatest_load plan loads live) live =
    all-at_most_greatest (load_on plan loads) (greatest_load plan loads live) live (omega arith) in
    let from_at : load_on plan loads move.from ≤ greatest_load plan loads live =
    omega (arith, ap (load_on plan loads) move.most.is_live.2, bound move.most.is_live.0 move.from move.most.is_live.1) in
    greatest-at_most (load_on next loads) (greatest_load plan loads live) live
    (λ k d inside.
    let q : ProcId = get_or live k d in
    let new : List ProcId = set plan move.mover.rank.0 move.to in
    let same : load_on next loads q ≡ load_on new loads q = ap (λ (xs : List ProcId). load_on xs loads q) move.moved in
    let step = load_moved loads plan move.from move.to move.mover q by_rank move.one_of_run long move.may_go.is_there in
    let cases : (nat_eq move.to.0 q.0 ≡ true) ⊎ (nat_eq move.to.0 q.0 ≡ false) = cases_Bool (nat_eq move.to.0 q.0) in
    elim cases [
      | inl e ↦
          let at_q : load_on plan loads move.to ≡ load_on plan loads q = ap (λ n. load_on plan loads (record { 0 = n })) (eqb-true move.to.0 q.0 e) in
          omega (arith, same, step, cond-true {A = ℕ} (nat_eq move.to.0 q.0) move.mover.ticks 0 e, at_q, move.may_go.fits, move.over, from_at)
      | inr e ↦ omega (arith, same, step, cond-false {A = ℕ} (nat_eq move.to.0 q.0) move.mover.ticks 0 e, bound k d inside)
    ])

pub moves_keep_length : (loads : List Load) (live : List ProcId) (limit n : ℕ) (start plan : List ProcId)
    → Moves loads live limit n start plan → length plan ≡ length start
moves_keep_length loads live limit zero start plan same = ap length same
moves_keep_length loads live limit (suc n) start plan made =
    ap length made.1.1.moved ∙ length-set made.0 made.1.1.mover.rank.0 made.1.1.to ∙ moves_keep_length loads live limit n start made.0 made.1.0

-- moves raise no greatest load
pub moves_no_greater : (loads : List Load) (live : List ProcId) (limit n : ℕ) (start plan : List ProcId) → AreByRank loads
    → length start ≡ length loads → Moves loads live limit n start plan → greatest_load plan loads live ≤ greatest_load start loads live
moves_no_greater loads live limit zero start plan by_rank long same =
    let e : greatest_load plan loads live ≡ greatest_load start loads live = ap (λ (xs : List ProcId). greatest_load xs loads live) same in
    omega (arith, e)
moves_no_greater loads live limit (suc n) start plan by_rank long made =
    let kept : length made.0 ≡ length loads = moves_keep_length loads live limit n start made.0 made.1.0 ∙ long in
    omega (arith, move_no_greater loads live made.0 plan limit by_rank kept made.1.1, moves_no_greater loads live limit n start made.0 by_rank long made.1.0)

-- there is one most loaded processor, and one least loaded one
pub one_most : (load : ProcId → ℕ) (live : List ProcId) (p q : ProcId) → IsMost load live p → IsMost load live q → p.0 ≡ q.0
one_most load live p q a b =
    let most_p : load q ≤ load p = a.most q b.is_live in
    let most_q : load p ≤ load q = b.most p a.is_live in
    let up : p.0 ≤ q.0 = a.first q b.is_live (omega arith) in
    let down : q.0 ≤ p.0 = b.first p a.is_live (omega arith) in
    omega arith

-- where the most loaded processor is not over the limit, there is no move
pub none_under : (loads : List Load) (live plan : List ProcId) (limit : ℕ) (from : ProcId) → IsMost (load_on plan loads) live from
    → load_on plan loads from ≤ limit → HasNoMove loads live limit plan
none_under loads live plan limit from most under next move =
    let no_more : load_on plan loads move.from ≤ load_on plan loads from = most.most move.from move.most.is_live in
    let over : limit < load_on plan loads move.from = move.over in
    omega arith

-- what stands at the first place that is not below a number which is in the list
pub found_at : (live : List ProcId) (p : ProcId) (i : ℕ) → Ascend live → Contains live p → i ≤ length live
    → ((k : ℕ) (d : ProcId) → 0 ≤ k → k < i → nat_lt (get_or live k d).0 p.0 ≡ true)
    → ((k : ℕ) (d : ProcId) → i ≤ k → k < length live → nat_lt (get_or live k d).0 p.0 ≡ false)
    → (i < length live) × ((d : ProcId) → get_or live i d ≡ p)
found_at live p i up here bound low high =
    let j : ℕ = here.0 in
    let j_in : j < length live = here.1 in
    let at : (get_or live j p).0 ≡ p.0 = ap (λ (q : ProcId). q.0) here.2 in
    let cases : (j < i) ⊎ (i ≤ j) = cases_lt j i in
    let past : i ≤ j =
    elim cases [
      | inl early ↦ absurd (let h : (get_or live j p).0 < p.0 = ltb-true (get_or live j p).0 p.0 (low j p (omega arith) early) in omega arith)
      | inr late ↦ late
    ] in
    let inside : i < length live = omega arith in
    let no_less : p.0 ≤ (get_or live i p).0 = ltb-false (get_or live i p).0 p.0 (high i p (omega arith) inside) in
    let again : (i < j) ⊎ (j ≤ i) = cases_lt i j in
    let same : i ≡ j =
    elim again [
      | inl less ↦ absurd (let h : (get_or live i p).0 < (get_or live j p).0 = up i j p less j_in in omega arith)
      | inr more ↦ omega arith
    ] in
    let P : ℕ → Type 0 = λ n. get_or live n p ≡ p in
    (inside, λ d. at_any live i d p inside ∙ subst P (sym same) here.2)

-- the first of the greatest sums belongs to the most loaded processor
pub most_is : (load : ProcId → ℕ) (live : List ProcId) (sums : List ℕ) (b : ℕ) → Ascend live → sums ≡ map load live
    → IsFirstGreatest sums (length sums) b → IsMost load live (proc_at live b)
most_is load live sums b up is found =
    let none : ProcId = record { 0 = 0 } in
    let long : length sums ≡ length live = ap length is ∙ length-map live load in
    let sum_at : (k : ℕ) → k < length live → get_or sums k 0 ≡ load (get_or live k none) =
    λ k inside. ap (λ xs. get_or xs k 0) is ∙ get_or-map load live k none 0 inside in
    let inside : b < length live = omega (arith, found.inside, long) in
    record {
      is_live = Contains-get_or live b none inside;
      most = λ q here.
          let at : load (get_or live here.0 none) ≡ load q = ap load (at_any live here.0 none q here.1 ∙ here.2) in
          omega (arith, found.greatest here.0 (omega (arith, here.1, long)), sum_at here.0 here.1, sum_at b inside, at);
      first = λ q here tie.
          let at : get_or live here.0 none ≡ q = at_any live here.0 none q here.1 ∙ here.2 in
          let cases : (here.0 < b) ⊎ (b ≤ here.0) = cases_lt here.0 b in
          let again : (b < here.0) ⊎ (here.0 ≤ b) = cases_lt b here.0 in
          elim cases [
            | inl early ↦ absurd (omega (arith, found.first here.0 early, sum_at here.0 here.1, sum_at b inside, ap load at, tie))
            | inr late ↦
                elim again [
                  | inl later ↦ omega (arith, up b here.0 none later here.1, ap (λ (p : ProcId). p.0) at)
                  | inr no_more ↦
                      let e : b ≡ here.0 = omega arith in
                      omega (arith, ap (λ k. (get_or live k none).0) e, ap (λ (p : ProcId). p.0) at)
                ]
          ];
    }

pub none_where_first : (loads : List Load) (live plan : List ProcId) (sums : List ℕ) (limit b : ℕ) → Ascend live → sums ≡ map (load_on plan loads) live
    → IsFirstGreatest sums (length sums) b → get_or sums b 0 ≤ limit → HasNoMove loads live limit plan
none_where_first loads live plan sums limit b up is found under =
    let none : ProcId = record { 0 = 0 } in
    let inside : b < length live = omega (arith, found.inside, ap length is, length-map live (load_on plan loads)) in
    let at : get_or sums b 0 ≡ load_on plan loads (get_or live b none) = ap (λ xs. get_or xs b 0) is ∙ get_or-map (load_on plan loads) live b none 0 inside in
    none_under loads live plan limit (proc_at live b) (most_is (load_on plan loads) live sums b up is found) (omega (arith, at, under))

pub below_is_front : (live : List ProcId) (p : ProcId) → Ascend live → IsPartitionedBy (λ (q : ProcId). nat_lt q.0 p.0) live
below_is_front live p up i j d no_later inside passes =
    let below : (get_or live j d).0 < p.0 = ltb-true (get_or live j d).0 p.0 passes in
    let cases : (i < j) ⊎ (j ≤ i) = cases_lt i j in
    elim cases [
      | inl less ↦ lt-ltb (get_or live i d).0 p.0 (let h : (get_or live i d).0 < (get_or live j d).0 = up i j d less inside in omega arith)
      | inr more ↦
          let e : j ≡ i = omega arith in
          let P : ℕ → Type 0 = λ n. nat_lt (get_or live n d).0 p.0 ≡ true in
          subst P e passes
    ]
