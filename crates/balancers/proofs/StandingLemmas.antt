-- The orders of loads and of processors, and what a heap of processors holds.
use Rattle.std.proofs.Common.{◌≡◌, ℕ, ◌+◌, ◌<◌, ◌≤◌, ◌⊎◌, inl, inr, Bool, true, false, cond, ◌||◌, ◌&&◌, List, [], ◌∷◌, ◌++◌, Option, Some, length, map, get_or, refl, sym, ◌∙◌, ap, subst, arith}
use Rattle.std.specs.Prelude.{nat_eq, nat_lt}
use Rattle.std.specs.BinaryHeap.{IsHeap, KeepsHeap, PopsGreatest}
use Rattle.std.specs.Cmp.{IsTotalOrder}
use Rattle.std.specs.Option.{IfSome}
use Rattle.std.specs.List.{All, Contains, sum_by}
use Rattle.std.specs.List.Sorted.{IsPermutation, IsSortedBy}
use Rattle.std.specs.Ordering.{is_lt, nat_cmp, ordering_then}
use Rattle.std.specs.declared.cmp.Ordering.{Ordering}
use Rattle.std.specs.declared.cmp.Ordering.TheVariants.{Less, Equal, Greater}
use Rattle.std.specs.declared.cmp.Reverse.{Reverse}
use Rattle.std.proofs.lemmas.Cmp.{nat_cmp_total, on_total, then_total, back_total}
use Rattle.std.proofs.lemmas.Bool.{cases_Bool, eq-eqb, cond-true, cond-false, or_parts, and_cases, ltb-false}
use Rattle.std.proofs.lemmas.List.{get_or-map, length-map}
use Rattle.std.proofs.lemmas.List.Elements.{All-tail, All-cons, All-head, All-from_recursion, Contains-get_or, All-contains}
use Rattle.std.proofs.lemmas.List.Sorted.{sorted_far, ranks_by, IsPermutation-map, IsPermutation-trans, IsPermutation-sym, All-permutation, Contains-permutation, sum_by-IsPermutation, IsPermutation-push_more}
use Rattle.std.proofs.lemmas.List.Sums.{sum_by-cons, get_or-le-sum_by}
use Rattle.am_base.specs.declared.numbers.ProcId.{ProcId}
use Rattle.am_base.specs.declared.numbers.RankId.{RankId}
use Rattle.balancers.specs.declared.loads.Load.{Load}
use Rattle.balancers.specs.Loads.{goes_before, IsLeast}
use Rattle.balancers.specs.Turns.{AreHeaviestFirst, Ascend, Holds, given, standing_cmp}
use Rattle.balancers.proofs.SumLemmas.{one_at_most}

-- whether the first of two pairs of comparisons says less
pub then_less : (p q r s : Bool) → is_lt (ordering_then (cond p Less (cond q Equal Greater)) (cond r Less (cond s Equal Greater))) ≡ (p || (q && r))
then_less true q r s = refl
then_less false true true s = refl
then_less false true false true = refl
then_less false true false false = refl
then_less false false r s = refl

-- the order that the sort is by
abbrev pub load_cmp : Load → Load → Ordering
load_cmp a b = ordering_then (nat_cmp b.ticks a.ticks) (nat_cmp a.rank.0 b.rank.0)

pub load_cmp_total : IsTotalOrder load_cmp
load_cmp_total =
    then_total {R = λ a b. nat_cmp b.ticks a.ticks} {S = λ a b. nat_cmp a.rank.0 b.rank.0}
    (on_total {K = Load} (λ l. l.ticks) (back_total nat_cmp_total)) (on_total {K = Load} (λ l. l.rank.0) nat_cmp_total)

pub load_less : (a b : Load) → is_lt (load_cmp a b) ≡ goes_before a b
load_less a b = then_less (nat_lt b.ticks a.ticks) (nat_eq b.ticks a.ticks) (nat_lt a.rank.0 b.rank.0) (nat_eq a.rank.0 b.rank.0)

abbrev pub key_of : Load → Reverse ℕ × RankId
key_of l = (record { 0 = l.ticks }, l.rank)

pub heaviest_first_is : (order : List Load) → IsSortedBy (λ a b. is_lt (load_cmp a b)) order → AreHeaviestFirst order
heaviest_first_is order up = λ i j d below inside.
    let far : is_lt (load_cmp (get_or order j d) (get_or order i d)) ≡ false =
    sorted_far (λ a b. is_lt (load_cmp a b)) (ranks_by load_cmp_total (λ (l : Load). l)) order up i j d (omega arith) inside in
    sym (load_less (get_or order j d) (get_or order i d)) ∙ far

-- what stands behind in the heap has no less, ties by number
pub behind : (a b c d : ℕ) → is_lt (ordering_then (nat_cmp a b) (nat_cmp c d)) ≡ false → (b ≤ a) × (a ≡ b → d ≤ c)
behind a b c d e =
    let both : (nat_lt a b || (nat_eq a b && nat_lt c d)) ≡ false = sym (then_less (nat_lt a b) (nat_eq a b) (nat_lt c d) (nat_eq c d)) ∙ e in
    let parts : (nat_lt a b ≡ false) × ((nat_eq a b && nat_lt c d) ≡ false) = or_parts (nat_lt a b) (nat_eq a b && nat_lt c d) both in
    let tie : (nat_eq a b ≡ false) ⊎ (nat_lt c d ≡ false) = and_cases (nat_eq a b) (nat_lt c d) parts.1 in
    (ltb-false a b parts.0, λ same. elim tie [ inl no_tie ↦ absurd (let yes_tie : nat_eq a b ≡ true = eq-eqb a b same in cc) | inr not_less ↦ ltb-false c d not_less ])

module _ (load : ProcId → ℕ) (live : List ProcId) (old : List (Reverse (ℕ × ProcId))) (holds : Holds load live old) where
  -- each live processor stands in the heap with its load
  pub standing_of : (q : ProcId) → Contains live q → (y : Reverse (ℕ × ProcId)) × Contains old y × (y.0.0 ≡ load q) × (y.0.1 ≡ q)
  standing_of q here =
      let mapped : Contains (map (λ x. x.0.1) old) q = Contains-permutation live (map (λ x. x.0.1) old) q holds.each_once here in
      let d : Reverse (ℕ × ProcId) = record { 0 = (0, q) } in
      let k : ℕ = mapped.0 in
      let inside : k < length old = omega (arith, mapped.1, length-map old (λ (x : Reverse (ℕ × ProcId)). x.0.1)) in
      let y : Reverse (ℕ × ProcId) = get_or old k d in
      let is : y.0.1 ≡ q = sym (get_or-map (λ (x : Reverse (ℕ × ProcId)). x.0.1) old k d q inside) ∙ mapped.2 in
      (y, Contains-get_or old k d inside, holds.told k d inside ∙ ap load is, is)

  module _ (x : Reverse (ℕ × ProcId)) (rest : List (Reverse (ℕ × ProcId))) (moved : IsPermutation old (x ∷ rest)) where
    pub told_rest : All (λ y. y.0.0 ≡ load y.0.1) (x ∷ rest)
    told_rest = All-permutation (λ y. y.0.0 ≡ load y.0.1) old (x ∷ rest) moved holds.told

    pub procs_rest : IsPermutation live (x.0.1 ∷ map (λ y. y.0.1) rest)
    procs_rest = IsPermutation-trans live (map (λ y. y.0.1) old) (x.0.1 ∷ map (λ y. y.0.1) rest) holds.each_once (IsPermutation-map (λ y. y.0.1) old (x ∷ rest) moved)

    pub least_is : PopsGreatest standing_cmp old x rest → IsLeast load live x.0.1
    least_is pops =
        let bound : All (λ y. is_lt (standing_cmp x y) ≡ false) old =
        All-from_recursion (λ y. is_lt (standing_cmp x y) ≡ false) old (pops holds.in_order).1 in
        let own : x.0.0 ≡ load x.0.1 = All-head (λ y. y.0.0 ≡ load y.0.1) x rest told_rest in
        let above : (y : Reverse (ℕ × ProcId)) → Contains old y → (x.0.0 ≤ y.0.0) × (y.0.0 ≡ x.0.0 → x.0.1.0 ≤ y.0.1.0) =
        λ y here. behind y.0.0 x.0.0 y.0.1.0 x.0.1.0 (All-contains (λ z. is_lt (standing_cmp x z) ≡ false) old y bound here) in
        record {
          is_live = Contains-permutation (x.0.1 ∷ map (λ y. y.0.1) rest) live x.0.1 (IsPermutation-sym live (x.0.1 ∷ map (λ y. y.0.1) rest) procs_rest) (0, (omega arith), refl);
          least = λ q here. let s = standing_of q here in omega (arith, own, s.2, (above s.0 s.1).0);
          first = λ q here tie.
              let s = standing_of q here in
              let e : s.0.0.0 ≡ x.0.0 = s.2 ∙ tie ∙ sym own in
              omega (arith, (above s.0 s.1).1 e, ap (λ (p : ProcId). p.0) s.3);
        }

    -- the processor that is taken stands only once
    pub others : Ascend live → All (λ (y : Reverse (ℕ × ProcId)). nat_eq x.0.1.0 y.0.1.0 ≡ false) rest
    others up = λ k d inside.
        let f : ProcId → ℕ = λ q. cond (nat_eq x.0.1.0 q.0) 1 0 in
        let qs : List ProcId = map (λ (y : Reverse (ℕ × ProcId)). y.0.1) rest in
        let all : sum_by f (x.0.1 ∷ qs) ≤ 1 = omega (arith, sum_by-IsPermutation f live (x.0.1 ∷ qs) procs_rest, one_at_most live x.0.1 1 up) in
        let own : f x.0.1 ≡ 1 = cond-true {A = ℕ} (nat_eq x.0.1.0 x.0.1.0) 1 0 (eq-eqb x.0.1.0 x.0.1.0 refl) in
        let at_k : f (get_or qs k d.0.1) ≤ sum_by f qs = get_or-le-sum_by f qs k d.0.1 (omega (arith, inside, length-map rest (λ (y : Reverse (ℕ × ProcId)). y.0.1))) in
        let is : get_or qs k d.0.1 ≡ (get_or rest k d).0.1 = get_or-map (λ (y : Reverse (ℕ × ProcId)). y.0.1) rest k d d.0.1 inside in
        let zero_at : f (get_or rest k d).0.1 ≤ 0 = omega (arith, ap f is, at_k, own, all, sum_by-cons f x.0.1 qs) in
        let cases : (nat_eq x.0.1.0 (get_or rest k d).0.1.0 ≡ true) ⊎ (nat_eq x.0.1.0 (get_or rest k d).0.1.0 ≡ false) = cases_Bool (nat_eq x.0.1.0 (get_or rest k d).0.1.0) in
        elim cases [ inl e ↦ absurd (omega (arith, zero_at, cond-true {A = ℕ} (nat_eq x.0.1.0 (get_or rest k d).0.1.0) 1 0 e)) | inr e ↦ e ]

    pub holds_after : (ticks : ℕ) (new : List (Reverse (ℕ × ProcId))) → Ascend live → IsHeap standing_cmp new
        → IsPermutation ((let y : Reverse (ℕ × ProcId) = record { 0 = (x.0.0 + ticks, x.0.1) } in y) ∷ rest) new
        → Holds (given load x.0.1 ticks) live new
    holds_after ticks new up heap pushed =
        let y : Reverse (ℕ × ProcId) = record { 0 = (x.0.0 + ticks, x.0.1) } in
        let after : ProcId → ℕ = given load x.0.1 ticks in
        let own : x.0.0 ≡ load x.0.1 = All-head (λ z. z.0.0 ≡ load z.0.1) x rest told_rest in
        let more : cond (nat_eq x.0.1.0 x.0.1.0) ticks 0 ≡ ticks = cond-true {A = ℕ} (nat_eq x.0.1.0 x.0.1.0) ticks 0 (eq-eqb x.0.1.0 x.0.1.0 refl) in
        let first : y.0.0 ≡ after y.0.1 = omega (arith, own, more) in
        let rest_told : All (λ z. z.0.0 ≡ after z.0.1) rest =
        λ k d inside. omega (arith, All-tail (λ z. z.0.0 ≡ load z.0.1) x rest told_rest k d inside, cond-false {A = ℕ} (nat_eq x.0.1.0 (get_or rest k d).0.1.0) ticks 0 (others up k d inside)) in
        record {
          in_order = heap;
          told = All-permutation (λ z. z.0.0 ≡ after z.0.1) (y ∷ rest) new pushed (All-cons (λ z. z.0.0 ≡ after z.0.1) y rest first rest_told);
          each_once = IsPermutation-trans live (x.0.1 ∷ map (λ z. z.0.1) rest) (map (λ z. z.0.1) new) procs_rest (IsPermutation-map (λ z. z.0.1) (y ∷ rest) new pushed);
        }

-- a pop, and a push of what was popped with more ticks
pub taken : (r : Option (Reverse (ℕ × ProcId))) (x : Reverse (ℕ × ProcId)) (ticks more : ℕ) (old rest new : List (Reverse (ℕ × ProcId)))
    → more ≡ ticks → r ≡ Some x → IfSome r (λ y. IsPermutation old (y ∷ rest)) → IfSome r (λ y. PopsGreatest standing_cmp old y rest)
    → IsPermutation ((let y : Reverse (ℕ × ProcId) = record { 0 = (x.0.0 + more, x.0.1) } in y) ∷ rest) new
    → KeepsHeap standing_cmp rest new
    → (load : ProcId → ℕ) (live : List ProcId) → Ascend live → Holds load live old
    → IsLeast load live x.0.1 × Holds (given load x.0.1 ticks) live new
taken r x ticks more old rest new same e moved pops pushed keeps load live up holds =
    let P : Option (Reverse (ℕ × ProcId)) → Type 0 = λ o. IfSome o (λ y. IsPermutation old (y ∷ rest)) in
    let Q : Option (Reverse (ℕ × ProcId)) → Type 0 = λ o. IfSome o (λ y. PopsGreatest standing_cmp old y rest) in
    let here : IsPermutation old (x ∷ rest) = subst P e moved in
    let greatest : PopsGreatest standing_cmp old x rest = subst Q e pops in
    let R : ℕ → Type 0 = λ n. IsPermutation ((let y : Reverse (ℕ × ProcId) = record { 0 = (x.0.0 + n, x.0.1) } in y) ∷ rest) new in
    (least_is load live old holds x rest here greatest, holds_after load live old holds x rest here ticks new up (keeps (greatest holds.in_order).0) (subst R same pushed))

pub holds_same : (f g : ProcId → ℕ) (live : List ProcId) (items : List (Reverse (ℕ × ProcId))) → ((p : ProcId) → f p ≡ g p) → Holds f live items → Holds g live items
holds_same f g live items same holds = record {
  in_order = holds.in_order;
  told = λ k d inside. holds.told k d inside ∙ same (get_or items k d).0.1;
  each_once = holds.each_once;
}

-- one more processor without load
pub one_more_idle : (live done : List ProcId) (p : ProcId) (old new : List (Reverse (ℕ × ProcId)))
    → live ≡ done ++ p ∷ [] → Holds (λ q. 0) done old
    → IsPermutation ((let y : Reverse (ℕ × ProcId) = record { 0 = (0, p) } in y) ∷ old) new → KeepsHeap standing_cmp old new
    → Holds (λ q. 0) live new
one_more_idle live done p old new e holds pushed keeps =
    let y : Reverse (ℕ × ProcId) = record { 0 = (0, p) } in
    let there : IsPermutation (done ++ p ∷ []) (map (λ z. z.0.1) new) =
    IsPermutation-push_more done (map (λ z. z.0.1) old) (map (λ z. z.0.1) new) p holds.each_once (IsPermutation-map (λ z. z.0.1) (y ∷ old) new pushed) in
    let P : List ProcId → Type 0 = λ xs. IsPermutation xs (map (λ (z : Reverse (ℕ × ProcId)). z.0.1) new) in
    record {
      in_order = keeps holds.in_order;
      told = All-permutation (λ z. z.0.0 ≡ 0) (y ∷ old) new pushed (All-cons (λ z. z.0.0 ≡ 0) y old refl holds.told);
      each_once = subst P (sym e) there;
    }
