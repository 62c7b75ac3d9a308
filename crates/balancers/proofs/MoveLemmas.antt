-- The sums of the live processors after a rank is added or goes, and the next move of the refining rule.
use Rattle.std.proofs.Common.{◌≡◌, ℕ, zero, suc, ◌+◌, ◌*◌, ◌-◌, ◌^◌, ◌<◌, ◌≤◌, ◌⊎◌, inl, inr, false, cond, ◌&&◌, Option, Some, None, List, [], ◌∷◌, ◌++◌, length, map, get_or, set, take, refl, sym, ◌∙◌, ap, subst, arith, length-set}
use Rattle.std.specs.Prelude.{nat_eq, nat_lt, IfNone}
use Rattle.std.specs.List.{All, Contains}
use Rattle.std.proofs.lemmas.Bool.{cases_lt, cases_eq, eq-eqb, ne_eqb, le-ltb, cond-true, cond-false, and_left, and_right, or_from}
use Rattle.std.proofs.lemmas.Grind.{get_or_default_zero}
use Rattle.std.proofs.lemmas.List.{get_or-map, get_or-set_same, get_or-set_other, length-map, map-append, take_more, same_lists}
use Rattle.std.proofs.lemmas.List.Elements.{Contains-get_or, All-contains, All-set, All-map}
use Rattle.std.proofs.lemmas.List.Sums.{sum_by_more}
use Rattle.am_base.specs.declared.numbers.ProcId.{ProcId}
use Rattle.balancers.specs.declared.loads.Load.{Load}
use Rattle.balancers.specs.declared.refining.Move.{Move}
use Rattle.balancers.specs.Loads.{AreByRank, AreLoads, places, place_in, brought, load_on, total, greatest_load, IsLeast, IsMost}
use Rattle.balancers.specs.Refining.{MayGo, IsMove, Moves, HasNoMove, IsRefined, limit_of}
use Rattle.balancers.specs.Steps.{IsFirstGreatest, IsFirstLeast, IsHeaviestThatFits, IsStep, AreSums, proc_at, ticks_at}
use Rattle.balancers.specs.Turns.{Ascend, so_far}
use Rattle.balancers.proofs.SumLemmas.{greatest-at_most}
use Rattle.balancers.proofs.SpreadLemmas.{at_any, so_far-at_most}
use Rattle.balancers.proofs.RefineLemmas.{load_moved, most_is, one_most}

-- a write at one live processor's place, where the others keep what they have
pub map_moved : (f g : ProcId → ℕ) (live : List ProcId) (sums : List ℕ) (j v : ℕ) → Ascend live → j < length live → sums ≡ map f live
    → g (proc_at live j) ≡ v → ((q : ProcId) → ((proc_at live j).0 ≡ q.0 → ⊥) → g q ≡ f q) → set sums j v ≡ map g live
map_moved f g live sums j v up inside is at other =
    let none : ProcId = record { 0 = 0 } in
    let long : length sums ≡ length live = ap length is ∙ length-map live f in
    same_lists (set sums j v) (map g live) (omega (arith, length-set sums j v, length-map live g, long))
    (λ k d within.
    let below : k < length live = omega (arith, within, length-set sums j v, long) in
    let right : get_or (map g live) k d ≡ g (get_or live k none) = get_or-map g live k none d below in
    let cases : (k ≡ j) ⊎ (k ≡ j → ⊥) = cases_eq k j in
    elim cases [
      | inl e ↦
          let P : ℕ → Type 0 = λ n. get_or (set sums j v) n d ≡ g (get_or live n none) in
          subst P (sym e) (get_or-set_same sums j v d (omega arith) ∙ sym at) ∙ sym right
      | inr apart ↦
          let order : (j < k) ⊎ (k ≤ j) = cases_lt j k in
          let differ : (get_or live j none).0 ≡ (get_or live k none).0 → ⊥ =
          λ same. elim order [
            | inl less ↦ absurd (omega (arith, up j k none less below, same))
            | inr more ↦
                let strict : k < j = elim (cases_lt k j) [ inl less ↦ less | inr no_less ↦ absurd (apart (omega arith)) ] in
                absurd (omega (arith, up k j none strict inside, same))
          ] in
          get_or-set_other sums j k v d apart ∙ ap (λ xs. get_or xs k d) is ∙ get_or-map f live k none d below ∙ sym (other (get_or live k none) differ) ∙ sym right
    ])

-- one more rank is added to what its place has
pub sums_more : (loads : List Load) (live : List ProcId) (sums : List ℕ) (i j : ℕ) (e : Load) → AreLoads loads live → i < length loads → j < length live
    → proc_at live j ≡ (get_or loads i e).place → sums ≡ map (so_far (places loads) loads i) live
    → set sums j (get_or sums j 0 + (get_or loads i e).ticks) ≡ map (so_far (places loads) loads (i + 1)) live
sums_more loads live sums i j e asked inside within there is =
    let plan : List ProcId = places loads in
    let l : Load = get_or loads i e in
    let none : ProcId = record { 0 = 0 } in
    let p : ProcId = proc_at live j in
    let rank : l.rank.0 ≡ i = asked.by_rank i e inside in
    let own : place_in plan l.rank ≡ l.place = ap (λ n. get_or plan n none) rank ∙ get_or-map (λ (m : Load). m.place) loads i e none inside in
    let step : (q : ProcId) → so_far plan loads (i + 1) q ≡ so_far plan loads i q + cond (nat_eq l.place.0 q.0) l.ticks 0 =
    λ q. sum_by_more (brought plan q) loads i e inside ∙ ap (λ (x : ProcId). so_far plan loads i q + cond (nat_eq x.0 q.0) l.ticks 0) own in
    let at : get_or sums j 0 ≡ so_far plan loads i p = ap (λ xs. get_or xs j 0) is ∙ get_or-map (so_far plan loads i) live j none 0 within in
    let number : l.place.0 ≡ p.0 = ap (λ (x : ProcId). x.0) (sym there) in
    map_moved (so_far plan loads i) (so_far plan loads (i + 1)) live sums j (get_or sums j 0 + l.ticks) asked.ascending within is
    (omega (arith, step p, at, cond-true {A = ℕ} (nat_eq l.place.0 p.0) l.ticks 0 (eq-eqb l.place.0 p.0 number)))
    (λ q differ. omega (arith, step q, cond-false {A = ℕ} (nat_eq l.place.0 q.0) l.ticks 0 (ne_eqb l.place.0 q.0 (λ same. differ (sym number ∙ same)))))

-- a sum so far has room for one more rank
pub sum_room : (loads : List Load) (live : List ProcId) (sums : List ℕ) (i j t : ℕ) → j < length live → sums ≡ map (so_far (places loads) loads i) live
    → total (take i loads) ≤ i * 2 ^ 64 → i < 2 ^ 63 → t < 2 ^ 64 → get_or sums j 0 + t < 2 ^ 128
sum_room loads live sums i j t within is small few fits =
    let none : ProcId = record { 0 = 0 } in
    let at : get_or sums j 0 ≡ so_far (places loads) loads i (get_or live j none) =
    ap (λ xs. get_or xs j 0) is ∙ get_or-map (so_far (places loads) loads i) live j none 0 within in
    omega (arith, at, so_far-at_most (places loads) loads i (get_or live j none))

-- the first of the least sums belongs to the least loaded processor
pub least_is : (load : ProcId → ℕ) (live : List ProcId) (sums : List ℕ) (b : ℕ) → Ascend live → sums ≡ map load live
    → IsFirstLeast sums (length sums) b → IsLeast load live (proc_at live b)
least_is load live sums b up is found =
    let none : ProcId = record { 0 = 0 } in
    let long : length sums ≡ length live = ap length is ∙ length-map live load in
    let sum_at : (k : ℕ) → k < length live → get_or sums k 0 ≡ load (get_or live k none) =
    λ k inside. ap (λ xs. get_or xs k 0) is ∙ get_or-map load live k none 0 inside in
    let inside : b < length live = omega (arith, found.inside, long) in
    record {
      is_live = Contains-get_or live b none inside;
      least = λ q here.
          let at : load (get_or live here.0 none) ≡ load q = ap load (at_any live here.0 none q here.1 ∙ here.2) in
          omega (arith, found.least here.0 (omega (arith, here.1, long)), sum_at here.0 here.1, sum_at b inside, at);
      first = λ q here tie.
          let at : get_or live here.0 none ≡ q = at_any live here.0 none q here.1 ∙ here.2 in
          let cases : (here.0 < b) ⊎ (b ≤ here.0) = cases_lt here.0 b in
          let again : (b < here.0) ⊎ (here.0 ≤ b) = cases_lt b here.0 in
          elim cases [
            | inl early ↦ absurd (omega (arith, found.first here.0 early, sum_at here.0 here.1, sum_at b inside, ap load at, tie))
            | inr late ↦
                elim again [
                  | inl later ↦ omega (arith, up b here.0 none later here.1, ap (λ (p : ProcId). p.0) at)
                  | inr no_more ↦
                      let e : b ≡ here.0 = omega arith in
                      omega (arith, ap (λ k. (get_or live k none).0) e, ap (λ (p : ProcId). p.0) at)
                ]
          ];
    }

-- one more sum, of a processor without load
pub one_more_none : (live : List ProcId) (i : ℕ) (e : ProcId) (old new : List ℕ) → i < length live → old ≡ map (λ q. 0) (take i live)
    → new ≡ old ++ 0 ∷ [] → new ≡ map (λ q. 0) (take (i + 1) live)
one_more_none live i e old new inside is pushed =
    let f : ProcId → ℕ = λ q. 0 in
    let P : List ℕ → Type 0 = λ xs. new ≡ xs ++ 0 ∷ [] in
    subst P is pushed ∙ sym (ap (map f) (take_more live i e inside) ∙ map-append f (take i live) (get_or live i e ∷ []))

-- what is read at a live processor's place, whatever stands for what is not there
pub read_at : (f : ProcId → ℕ) (live : List ProcId) (sums : List ℕ) (j v : ℕ) → sums ≡ map f live → j < length live → v ≡ get_or sums j v → v ≡ get_or sums j 0
read_at f live sums j v is inside at = at ∙ get_or_default_zero sums j v (omega (arith, ap length is, length-map live f, inside))

pub if_none_from : {X : Type 0} (o : Option X) (P : Type 0) → P → IfNone o P
if_none_from None P p = p
if_none_from (Some x) P p = tt

-- no rank of the most loaded processor may go to the least loaded one
abbrev pub NoneGoes : List Load → List ProcId → List ProcId → ℕ → Type 0
NoneGoes loads live plan limit =
    (from to : ProcId) → IsMost (load_on plan loads) live from → IsLeast (load_on plan loads) live to → All (λ l. MayGo loads limit plan from to l → ⊥) loads

-- where the least loaded processor has no room at all, no rank may go to it
pub none_goes_there : (loads : List Load) (live plan : List ProcId) (sums : List ℕ) (limit b : ℕ) → Ascend live → sums ≡ map (load_on plan loads) live
    → IsFirstLeast sums (length sums) b → limit < get_or sums b 0
    → NoneGoes loads live plan limit
none_goes_there loads live plan sums limit b up is found over from to most least = λ k d inside may.
    let none : ProcId = record { 0 = 0 } in
    let within : b < length live = omega (arith, found.inside, ap length is, length-map live (load_on plan loads)) in
    let at : get_or sums b 0 ≡ load_on plan loads (proc_at live b) = ap (λ xs. get_or xs b 0) is ∙ get_or-map (load_on plan loads) live b none 0 within in
    let no_more : load_on plan loads (proc_at live b) ≤ load_on plan loads to = (least_is (load_on plan loads) live sums b up is found).least to least.is_live in
    omega (arith, at, no_more, may.fits)

-- where no rank of the most loaded processor fits into the room of the least loaded one, none may go
pub none_fits : (loads : List Load) (live plan : List ProcId) (sums : List ℕ) (limit room f b : ℕ) → AreByRank loads → Ascend live → sums ≡ map (load_on plan loads) live
    → IsFirstGreatest sums (length sums) f → IsFirstLeast sums (length sums) b → room ≡ limit - get_or sums b 0
    → IsHeaviestThatFits loads plan (proc_at live f).0 room (length loads) 0 0
    → NoneGoes loads live plan limit
none_fits loads live plan sums limit room f b by_rank up is greatest found room_is nothing from to most least = λ k d inside may.
    let none : ProcId = record { 0 = 0 } in
    let nil : Load = record { rank = record { 0 = 0 }; place = record { 0 = 0 }; ticks = 0 } in
    let within : b < length live = omega (arith, found.inside, ap length is, length-map live (load_on plan loads)) in
    let at : get_or sums b 0 ≡ load_on plan loads (proc_at live b) = ap (λ xs. get_or xs b 0) is ∙ get_or-map (load_on plan loads) live b none 0 within in
    let no_more : load_on plan loads (proc_at live b) ≤ load_on plan loads to = (least_is (load_on plan loads) live sums b up is found).least to least.is_live in
    let l : Load = get_or loads k d in
    let rank : l.rank.0 ≡ k = by_rank k d inside in
    let weight : l.ticks ≡ ticks_at loads k = ap (λ (m : Load). m.ticks) (at_any loads k d nil inside) in
    let same : from.0 ≡ (proc_at live f).0 = one_most (load_on plan loads) live from (proc_at live f) most (most_is (load_on plan loads) live sums f up is greatest) in
    let there : (proc_at plan k).0 ≡ (proc_at live f).0 = ap (λ n. (proc_at plan n).0) (sym rank) ∙ ap (λ (p : ProcId). p.0) may.is_there ∙ same in
    let light : ticks_at loads k ≤ room = omega (arith, at, no_more, may.fits, weight, room_is) in
    let nought : ticks_at loads k ≤ 0 = nothing.none_more k inside there light in
    omega (arith, may.positive, weight, nought)

pub no_move_where_none_goes : (loads : List Load) (live plan : List ProcId) (limit : ℕ)
    → NoneGoes loads live plan limit
    → HasNoMove loads live limit plan
no_move_where_none_goes loads live plan limit stay next move =
    All-contains (λ l. MayGo loads limit plan move.from move.to l → ⊥) loads move.mover (stay move.from move.to move.most move.least) move.one_of_run move.may_go

-- what the code takes is a move by the rule
pub step_is : (loads : List Load) (live plan : List ProcId) (sums : List ℕ) (limit room f b r t : ℕ) → AreByRank loads → Ascend live → length plan ≡ length loads
    → sums ≡ map (load_on plan loads) live → IsFirstGreatest sums (length sums) f → limit < get_or sums f 0
    → IsFirstLeast sums (length sums) b → get_or sums b 0 ≤ limit → room ≡ limit - get_or sums b 0
    → 0 < ticks_at loads r → IsHeaviestThatFits loads plan (proc_at live f).0 room (length loads) r (ticks_at loads r) → t ≡ ticks_at loads r
    → IsStep loads live plan sums limit (record { rank = r; ticks = t; from = f; to = b })
step_is loads live plan sums limit room f b r t by_rank up long is greatest over found under room_is some best weight =
    let none : ProcId = record { 0 = 0 } in
    let nil : Load = record { rank = record { 0 = 0 }; place = record { 0 = 0 }; ticks = 0 } in
    let load : ProcId → ℕ = load_on plan loads in
    let sums_long : length sums ≡ length live = ap length is ∙ length-map live load in
    let f_in : f < length live = omega (arith, greatest.inside, sums_long) in
    let b_in : b < length live = omega (arith, found.inside, sums_long) in
    let at_f : get_or sums f 0 ≡ load (proc_at live f) = ap (λ xs. get_or xs f 0) is ∙ get_or-map load live f none 0 f_in in
    let at_b : get_or sums b 0 ≡ load (proc_at live b) = ap (λ xs. get_or xs b 0) is ∙ get_or-map load live b none 0 b_in in
    let r_in : r < length loads = best.in_list some in
    let mover : Load = get_or loads r nil in
    let rank : mover.rank.0 ≡ r = by_rank r nil r_in in
    let made : ℕ → ProcId = λ n. record { 0 = n } in
    let was : proc_at plan r ≡ proc_at live f = ap made (best.is_there some) in
    let fits : ticks_at loads r ≤ room = best.fits in
    record {
      of_run = omega (arith, r_in, long);
      from_live = f_in;
      to_live = b_in;
      weight = weight;
      positive = omega (arith, some, weight);
      was_there = was;
      over = over;
      enough = omega (arith, fits, weight, over, room_is);
      fits = omega (arith, fits, weight, under, room_is);
      is_move = record {
        from = proc_at live f;
        to = proc_at live b;
        mover = mover;
        most = most_is load live sums f up is greatest;
        over = omega (arith, over, at_f);
        least = least_is load live sums b up is found;
        one_of_run = Contains-get_or loads r nil r_in;
        may_go = record {
          is_there = ap (λ n. get_or plan n none) rank ∙ was;
          positive = some;
          fits = omega (arith, fits, under, room_is, at_b);
        };
        heaviest = λ k d inside may.
            let m : Load = get_or loads k d in
            let m_rank : m.rank.0 ≡ k = by_rank k d inside in
            let m_weight : m.ticks ≡ ticks_at loads k = ap (λ (x : Load). x.ticks) (at_any loads k d nil inside) in
            let there : (proc_at plan k).0 ≡ (proc_at live f).0 = ap (λ n. (proc_at plan n).0) (sym m_rank) ∙ ap (λ (p : ProcId). p.0) may.is_there in
            let light : ticks_at loads k ≤ room = omega (arith, at_b, may.fits, m_weight, room_is) in
            let no_more : ticks_at loads k ≤ ticks_at loads r = best.none_more k inside there light in
            let lighter : nat_lt mover.ticks m.ticks ≡ false = le-ltb mover.ticks m.ticks (omega (arith, no_more, m_weight)) in
            let cases : (k < r) ⊎ (r ≤ k) = cases_lt k r in
            or_from (nat_lt mover.ticks m.ticks) (nat_eq mover.ticks m.ticks && nat_lt m.rank.0 mover.rank.0) lighter
            (elim cases [
              | inl early ↦
                  let less : ticks_at loads k < ticks_at loads r = best.first k early there light in
                  and_left (nat_eq mover.ticks m.ticks) (nat_lt m.rank.0 mover.rank.0) (ne_eqb mover.ticks m.ticks (λ e. absurd (omega (arith, less, m_weight, e))))
              | inr late ↦ and_right (nat_eq mover.ticks m.ticks) (nat_lt m.rank.0 mover.rank.0) (le-ltb m.rank.0 mover.rank.0 (omega (arith, rank, m_rank, late)))
            ]);
        moved = ap (λ n. set plan n (proc_at live b)) (sym rank);
      };
    }

-- a most loaded processor that is not over the limit ends the rule's moves
pub ends_under : (loads : List Load) (live plan : List ProcId) (sums : List ℕ) (limit f : ℕ) → Ascend live → sums ≡ map (load_on plan loads) live
    → IsFirstGreatest sums (length sums) f → get_or sums f 0 ≤ limit → greatest_load plan loads live ≤ limit
ends_under loads live plan sums limit f up is greatest under =
    let none : ProcId = record { 0 = 0 } in
    let load : ProcId → ℕ = load_on plan loads in
    let f_in : f < length live = omega (arith, greatest.inside, ap length is, length-map live load) in
    let at_f : get_or sums f 0 ≡ load (proc_at live f) = ap (λ xs. get_or xs f 0) is ∙ get_or-map load live f none 0 f_in in
    greatest-at_most load limit live
    (λ k d inside. omega (arith, (most_is load live sums f up is greatest).most (get_or live k d) (Contains-get_or live k d inside), at_f, under))

-- a move is between two processors
pub apart : (loads : List Load) (live plan : List ProcId) (sums : List ℕ) (limit : ℕ) (step : Move) → IsStep loads live plan sums limit step → step.from ≡ step.to → ⊥
apart loads live plan sums limit step is same = omega (arith, is.over, is.fits, ap (λ k. get_or sums k 0) same)

-- the sums after a move are those of the plan after it
pub step_sums : (loads : List Load) (live plan : List ProcId) (sums : List ℕ) (limit : ℕ) (step : Move) → AreLoads loads live → length plan ≡ length loads
    → AreSums loads live plan sums → IsStep loads live plan sums limit step
    → AreSums loads live (set plan step.rank (proc_at live step.to)) (set (set sums step.from (get_or sums step.from 0 - step.ticks)) step.to (get_or sums step.to 0 + step.ticks))
step_sums loads live plan sums limit step asked long sums_are is =
    let none : ProcId = record { 0 = 0 } in
    let nil : Load = record { rank = record { 0 = 0 }; place = record { 0 = 0 }; ticks = 0 } in
    let from : ProcId = proc_at live step.from in
    let to : ProcId = proc_at live step.to in
    let l : Load = get_or loads step.rank nil in
    let f : ProcId → ℕ = load_on plan loads in
    let next : List ProcId = set plan step.rank to in
    let g : ProcId → ℕ = load_on next loads in
    let h : ProcId → ℕ = λ q. f q - cond (nat_eq from.0 q.0) l.ticks 0 in
    let inside : step.rank < length loads = omega (arith, is.of_run, long) in
    let rank : l.rank.0 ≡ step.rank = asked.by_rank step.rank nil inside in
    let weight : step.ticks ≡ l.ticks = is.weight in
    let was : place_in plan l.rank ≡ from = ap (λ n. get_or plan n none) rank ∙ is.was_there in
    let moved : (q : ProcId) → g q + cond (nat_eq from.0 q.0) l.ticks 0 ≡ f q + cond (nat_eq to.0 q.0) l.ticks 0 =
    λ q.
    let P : ℕ → Type 0 = λ n. load_on (set plan n to) loads q + cond (nat_eq from.0 q.0) l.ticks 0 ≡ f q + cond (nat_eq to.0 q.0) l.ticks 0 in
    subst P rank (load_moved loads plan from to l q asked.by_rank (Contains-get_or loads step.rank nil inside) long was) in
    let at_from : get_or sums step.from 0 ≡ f from = ap (λ xs. get_or xs step.from 0) sums_are ∙ get_or-map f live step.from none 0 is.from_live in
    let at_to : get_or sums step.to 0 ≡ f to = ap (λ xs. get_or xs step.to 0) sums_are ∙ get_or-map f live step.to none 0 is.to_live in
    let differ : from.0 ≡ to.0 → ⊥ =
    λ e.
    let same : f from ≡ f to = ap (λ n. f (record { 0 = n })) e in
    omega (arith, same, at_from, at_to, is.over, is.fits) in
    let left : ℕ = get_or sums step.from 0 - step.ticks in
    let first : set sums step.from left ≡ map h live =
    map_moved f h live sums step.from left asked.ascending is.from_live sums_are
    (omega (arith, at_from, weight, cond-true {A = ℕ} (nat_eq from.0 from.0) l.ticks 0 (eq-eqb from.0 from.0 refl)))
    (λ q other. omega (arith, cond-false {A = ℕ} (nat_eq from.0 q.0) l.ticks 0 (ne_eqb from.0 q.0 other))) in
    map_moved h g live (set sums step.from left) step.to (get_or sums step.to 0 + step.ticks) asked.ascending is.to_live first
    (omega (arith, at_to, weight, moved to, cond-true {A = ℕ} (nat_eq to.0 to.0) l.ticks 0 (eq-eqb to.0 to.0 refl), cond-false {A = ℕ} (nat_eq from.0 to.0) l.ticks 0 (ne_eqb from.0 to.0 differ)))
    (λ q other. omega (arith, moved q, cond-false {A = ℕ} (nat_eq to.0 q.0) l.ticks 0 (ne_eqb to.0 q.0 other)))

-- after moves each place is live
pub moves_at_live : (loads : List Load) (live : List ProcId) (limit n : ℕ) (start plan : List ProcId) → All (λ p. Contains live p) start
    → Moves loads live limit n start plan → All (λ p. Contains live p) plan
moves_at_live loads live limit zero start plan here same =
    let P : List ProcId → Type 0 = λ xs. All (λ p. Contains live p) xs in
    subst P (sym same) here
moves_at_live loads live limit (suc n) start plan here made =
    let P : List ProcId → Type 0 = λ xs. All (λ p. Contains live p) xs in
    let move : IsMove loads live limit made.0 plan = made.1.1 in
    subst P (sym move.moved) (All-set (λ p. Contains live p) made.0 move.mover.rank.0 move.to move.least.is_live (moves_at_live loads live limit n start made.0 here made.1.0))

pub places_at_live : (loads : List Load) (live : List ProcId) → AreLoads loads live → All (λ p. Contains live p) (places loads)
places_at_live loads live asked = All-map (λ p. Contains live p) (λ (l : Load). l.place) loads asked.at_live

-- one turn of the loop: a move more, and the sums of the plan after it
module _ (loads : List Load) (live plan seen : List ProcId) (sums read : List ℕ) (limit : ℕ) (step : Move) (v w : ℕ) (asked : AreLoads loads live)
    (seen_is : seen ≡ plan) (read_is : read ≡ sums) (long : length plan ≡ length loads) (sums_are : AreSums loads live plan sums)
    (is : IsStep loads live seen read limit step) where
  pub step_here : IsStep loads live plan sums limit step
  step_here =
      let P : List ProcId → Type 0 = λ xs. IsStep loads live xs read limit step in
      let Q : List ℕ → Type 0 = λ xs. IsStep loads live plan xs limit step in
      subst Q read_is (subst P seen_is is)

  pub turn_made : ((n : ℕ) × Moves loads live limit n (places loads) plan) → (n : ℕ) × Moves loads live limit n (places loads) (set plan step.rank (proc_at live step.to))
  turn_made made = (suc made.0, (plan, (made.1, step_here.is_move)))

  pub turn_sums : v ≡ get_or sums step.from v → w ≡ get_or (set sums step.from (v - step.ticks)) step.to w
      → set (set sums step.from (get_or sums step.from 0 - step.ticks)) step.to (get_or sums step.to 0 + step.ticks)
      ≡ set (set sums step.from (v - step.ticks)) step.to (w + step.ticks)
  turn_sums v_is w_is =
      let sums_long : length sums ≡ length live = ap length sums_are ∙ length-map live (load_on plan loads) in
      let first : v ≡ get_or sums step.from 0 = read_at (load_on plan loads) live sums step.from v sums_are step_here.from_live v_is in
      let mid : List ℕ = set sums step.from (v - step.ticks) in
      let there : w ≡ get_or mid step.to 0 = w_is ∙ get_or_default_zero mid step.to w (omega (arith, step_here.to_live, sums_long, length-set sums step.from (v - step.ticks))) in
      let stays : get_or mid step.to 0 ≡ get_or sums step.to 0 =
      get_or-set_other sums step.from step.to (v - step.ticks) 0 (λ e. apart loads live plan sums limit step step_here (sym e)) in
      let second : w ≡ get_or sums step.to 0 = there ∙ stays in
      ap (λ n. set (set sums step.from (n - step.ticks)) step.to (get_or sums step.to 0 + step.ticks)) (sym first)
      ∙ ap (λ n. set (set sums step.from (v - step.ticks)) step.to (n + step.ticks)) (sym second)

-- what the loop ends with
pub refined_is : (loads : List Load) (live plan seen end : List ProcId) (limit : ℕ) → limit ≡ limit_of loads live → seen ≡ plan → end ≡ plan
    → ((n : ℕ) × Moves loads live limit n (places loads) plan) → HasNoMove loads live limit seen → IsRefined loads live end
refined_is loads live plan seen end limit limit_is seen_is end_is made ended =
    let L : ℕ = limit_of loads live in
    let P : ℕ → Type 0 = λ n. Moves loads live n made.0 (places loads) plan in
    let Q : List ProcId → Type 0 = λ xs. Moves loads live L made.0 (places loads) xs in
    let R : ℕ → Type 0 = λ n. HasNoMove loads live n seen in
    let S : List ProcId → Type 0 = λ xs. HasNoMove loads live L xs in
    record { moves = made.0; made = subst Q (sym end_is) (subst P limit_is made.1); ended = subst S (seen_is ∙ sym end_is) (subst R limit_is ended) }
