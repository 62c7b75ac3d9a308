-- What a learning does to the pair of a rank, and what a list of them does.
use Rattle.std.proofs.Common.{◌≡◌, ◌≢◌, ◌∙◌, ◌<◌, ◌≤◌, ℕ, ◌==◌, Bool, true, false, Some, List, [], ◌∷◌, ◌++◌, length, slice_get, slice_set, refl, sym, ap, subst, inl, inr, arith, cond}
use Rattle.std.specs.List.{AllByRecursion}
use Rattle.std.proofs.lemmas.List.{get_or-set_same, get_or-set_other, length-set}
use Rattle.std.proofs.lemmas.Option.{slice_get_within, slice_get-get_or, get_or_from_slice_get}
use Rattle.std.proofs.lemmas.Bool.Decides.{eqb_tells}
use Rattle.am_base.specs.declared.numbers.ProcId.{ProcId}
use Rattle.am_base.specs.declared.numbers.RankId.{RankId}
use Rattle.location.specs.Places.{Places, Learns}
use Rattle.location.specs.Learnings.{Learning, told_of, IsFirstGreatest, KnowsTheGreatest, CountsNeverFall, HomesStay}

-- the element that was put
put_same : {A : Type 0} (xs : List A) (i : ℕ) (v x : A) → slice_get xs i ≡ Some x → slice_get (slice_set xs i v) i ≡ Some v
put_same xs i v x e =
    let inside : i < length xs = slice_get_within xs i x e in
    slice_get-get_or (slice_set xs i v) i v (omega (arith, length-set xs i v, inside)) ∙ ap Some (get_or-set_same xs i v v inside)

-- another element
put_other : {A : Type 0} (xs : List A) (i j : ℕ) (v x : A) → j ≢ i → slice_get xs j ≡ Some x
    → slice_get (slice_set xs i v) j ≡ Some x
put_other xs i j v x other e =
    let inside : j < length xs = slice_get_within xs j x e in
    slice_get-get_or (slice_set xs i v) j x (omega (arith, length-set xs i v, inside))
    ∙ ap Some (get_or-set_other xs i j v x other ∙ get_or_from_slice_get xs j x x e)

-- What a learning does to the pair of a rank: it is of another rank, not newer, or newer.
data Step (rank : RankId) (l : Learning) (known : ℕ × ProcId) (new : Places) : Type 0 where
  other : (l.rank.0 == rank.0) ≡ false → slice_get new.pairs rank.0 ≡ Some known → Step rank l known new
  older : (l.rank.0 == rank.0) ≡ true → l.told.0 ≤ known.0 → slice_get new.pairs rank.0 ≡ Some known → Step rank l known new
  newer : (l.rank.0 == rank.0) ≡ true → known.0 < l.told.0 → slice_get new.pairs rank.0 ≡ Some l.told → Step rank l known new

stays : (old new : Places) (l : Learning) (rank : RankId) (known : ℕ × ProcId)
    → Learns old l.rank l.told false new → slice_get old.pairs rank.0 ≡ Some known → Step rank l known new
stays old new l rank known h e =
    let same : slice_get new.pairs rank.0 ≡ Some known = ap (λ (t : Places). slice_get t.pairs rank.0) h.kept ∙ e in
    elim (eqb_tells l.rank.0 rank.0) [
      | inl t ↦
          let here : slice_get old.pairs l.rank.0 ≡ Some known = ap (λ n. slice_get old.pairs n) t.1 ∙ e in
          let not_less : known.0 < l.told.0 → ⊥ = λ less. (let never : false ≡ true = (h.newer known here).1 less in cc) in
          older t.0 (omega (arith, not_less)) same
      | inr f ↦ other f.0 same
    ]

changes : (old new : Places) (l : Learning) (rank : RankId) (known : ℕ × ProcId)
    → Learns old l.rank l.told true new → slice_get old.pairs rank.0 ≡ Some known → Step rank l known new
changes old new l rank known h e =
    elim (eqb_tells l.rank.0 rank.0) [
      | inl t ↦
          let here : slice_get old.pairs l.rank.0 ≡ Some known = ap (λ n. slice_get old.pairs n) t.1 ∙ e in
          let put : slice_get new.pairs rank.0 ≡ Some l.told =
          ap (λ (x : Places). slice_get x.pairs rank.0) h.stored
          ∙ ap (λ n. slice_get (slice_set old.pairs l.rank.0 l.told) n) (sym t.1)
          ∙ put_same old.pairs l.rank.0 l.told known here in
          newer t.0 ((h.newer known here).0 refl) put
      | inr f ↦
          other f.0 (ap (λ (x : Places). slice_get x.pairs rank.0) h.stored
          ∙ put_other old.pairs l.rank.0 rank.0 l.told known (λ q. f.1 (sym q)) e)
    ]

step_of : (answer : Bool) (old new : Places) (l : Learning) (rank : RankId) (known : ℕ × ProcId)
    → Learns old l.rank l.told answer new → slice_get old.pairs rank.0 ≡ Some known → Step rank l known new
step_of true = changes
step_of false = stays

-- the first pair has no greater count than the greatest
first_is_no_greater : (x : ℕ × ProcId) (xs before behind : List (ℕ × ProcId)) (p : ℕ × ProcId)
    → x ∷ xs ≡ before ++ p ∷ behind → AllByRecursion (λ q. q.0 < p.0) before → x.0 ≤ p.0
first_is_no_greater x xs [] behind p e less =
    let same : x ≡ p = cc in
    omega (arith, ap (λ (q : ℕ × ProcId). q.0) same)
first_is_no_greater x xs (b ∷ before) behind p e less =
    let same : x ≡ b = cc in
    omega (arith, ap (λ (q : ℕ × ProcId). q.0) same, less.0)

-- a pair behind the first that isn't newer
pass_by : (x y : ℕ × ProcId) (xs before behind : List (ℕ × ProcId)) (p : ℕ × ProcId)
    → y.0 ≤ x.0 → x ∷ xs ≡ before ++ p ∷ behind
    → AllByRecursion (λ q. q.0 < p.0) before → AllByRecursion (λ q. q.0 ≤ p.0) behind
    → IsFirstGreatest (x ∷ y ∷ xs) p
pass_by x y xs [] behind p small e less no_greater =
    let same : x ≡ p = cc in
    let rest : xs ≡ behind = cc in
    let P : List (ℕ × ProcId) → Type 0 = λ zs. AllByRecursion (λ q. q.0 ≤ p.0) zs in
    record {
      before = [];
      behind = y ∷ xs;
      among = ap (λ z. z ∷ y ∷ xs) same;
      greater = tt;
      no_greater = (omega (arith, ap (λ (q : ℕ × ProcId). q.0) same), subst P (sym rest) no_greater);
    }
pass_by x y xs (b ∷ before) behind p small e less no_greater =
    let same : x ≡ b = cc in
    let rest : xs ≡ before ++ p ∷ behind = cc in
    record {
      before = x ∷ y ∷ before;
      behind = behind;
      among = ap (λ zs. x ∷ y ∷ zs) rest;
      greater = (
        omega (arith, ap (λ (q : ℕ × ProcId). q.0) same, less.0),
        (omega (arith, ap (λ (q : ℕ × ProcId). q.0) same, less.0), less.1),
      );
      no_greater = no_greater;
    }

-- a newer pair behind the first
pass_on : (x y : ℕ × ProcId) (xs : List (ℕ × ProcId)) (p : ℕ × ProcId)
    → x.0 < y.0 → IsFirstGreatest (y ∷ xs) p → IsFirstGreatest (x ∷ y ∷ xs) p
pass_on x y xs p small g =
    record {
      before = x ∷ g.before;
      behind = g.behind;
      among = ap (λ zs. x ∷ zs) g.among;
      greater = (omega (arith, first_is_no_greater y xs g.before g.behind p g.among g.greater, small), g.greater);
      no_greater = g.no_greater;
    }

-- what a rank has in the end
abbrev Ends : RankId → ℕ × ProcId → List (ℕ × ProcId) → Places → Type 0
Ends rank known told new =
    (pair : ℕ × ProcId) × (slice_get new.pairs rank.0 ≡ Some pair) × IsFirstGreatest (known ∷ told) pair

-- the pairs that are told of the rank from a learning on
told_here : (rank : RankId) (l : Learning) (ls : List Learning) → (l.rank.0 == rank.0) ≡ true
    → told_of rank (l ∷ ls) ≡ l.told ∷ told_of rank ls
told_here rank l ls e = ap (λ b. cond b (l.told ∷ told_of rank ls) (told_of rank ls)) e

told_elsewhere : (rank : RankId) (l : Learning) (ls : List Learning) → (l.rank.0 == rank.0) ≡ false
    → told_of rank (l ∷ ls) ≡ told_of rank ls
told_elsewhere rank l ls e = ap (λ b. cond b (l.told ∷ told_of rank ls) (told_of rank ls)) e

pub knows_the_greatest : KnowsTheGreatest
knows_the_greatest old new [] rank known run e = (
  known,
  ap (λ (t : Places). slice_get t.pairs rank.0) run ∙ e,
  record {
    before = [];
    behind = [];
    among = refl;
    greater = tt;
    no_greater = tt;
  },
)
knows_the_greatest old new (l ∷ ls) rank known run e =
    elim (step_of run.0 old run.1 l rank known run.2 e) [
      | other f here ↦
          let P : List (ℕ × ProcId) → Type 0 = λ told. Ends rank known told new in
          subst P (sym (told_elsewhere rank l ls f)) (knows_the_greatest run.1 new ls rank known run.3 here)
      | older t small here ↦
          let P : List (ℕ × ProcId) → Type 0 = λ told. Ends rank known told new in
          let end : Ends rank known (told_of rank ls) new = knows_the_greatest run.1 new ls rank known run.3 here in
          let g : IsFirstGreatest (known ∷ told_of rank ls) end.0 = end.2 in
          subst P (sym (told_here rank l ls t))
          (end.0, end.1, pass_by known l.told (told_of rank ls) g.before g.behind end.0 small g.among g.greater g.no_greater)
      | newer t small here ↦
          let P : List (ℕ × ProcId) → Type 0 = λ told. Ends rank known told new in
          let end : Ends rank l.told (told_of rank ls) new = knows_the_greatest run.1 new ls rank l.told run.3 here in
          subst P (sym (told_here rank l ls t)) (end.0, end.1, pass_on known l.told (told_of rank ls) end.0 small end.2)
    ]

pub counts_never_fall : CountsNeverFall
counts_never_fall old new ls rank known pair run e f =
    let end : Ends rank known (told_of rank ls) new = knows_the_greatest old new ls rank known run e in
    let g : IsFirstGreatest (known ∷ told_of rank ls) end.0 = end.2 in
    let found : slice_get new.pairs rank.0 ≡ Some end.0 = end.1 in
    let same : end.0 ≡ pair = cc in
    omega (arith, ap (λ (q : ℕ × ProcId). q.0) same, first_is_no_greater known (told_of rank ls) g.before g.behind end.0 g.among g.greater)

home_stays : (answer : Bool) (old new : Places) (rank : RankId) (told : ℕ × ProcId)
    → Learns old rank told answer new → new.homes ≡ old.homes
home_stays true old new rank told h = ap (λ (t : Places). t.homes) h.stored
home_stays false old new rank told h = ap (λ (t : Places). t.homes) h.kept

pub homes_stay : HomesStay
homes_stay old new [] run = ap (λ (t : Places). t.homes) run
homes_stay old new (l ∷ ls) run = homes_stay run.1 new ls run.3 ∙ home_stays run.0 old run.1 l.rank l.told run.2
