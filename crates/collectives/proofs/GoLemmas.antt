-- A member and its children go on to their next stages.
use Rattle.std.proofs.Common.{ℕ, zero, suc, ◌≡◌, ◌≢◌, ◌+◌, ◌-◌, ◌<◌, ◌≤◌, inl, inr, List, [], ◌∷◌, map, cond, Bool, true, false, ◌||◌, refl, sym, subst, ap, ◌∙◌, arith}
use Rattle.std.specs.Prelude.{nat_eq, nat_lt, not, All, filter}
use Rattle.std.specs.List.{list_all}
use Rattle.std.proofs.lemmas.Bool.{cases_Bool, cases_lt, cases_eq, and_parts, eqb-true, eqb-false, eq-eqb, ne_eqb, true≢false, cond-true, cond-false, ltb-true, lt-ltb, not-true}
use Rattle.std.proofs.lemmas.List.Elements.{All-nil, All-cons, All-head, All-tail, All-weaker}
use Rattle.mpi_types.specs.declared.argument.TreeMsg.{TreeMsg}
use Rattle.mpi_types.specs.declared.context.Level.{Level}
use Rattle.collectives.specs.Tree.{end_of, parent_of, children, children_from}
use Rattle.collectives.specs.Held.{is_up_of}
use Rattle.collectives.specs.Slices.{Given, up_of}
use Rattle.collectives.specs.Stages.{Stage, is_apart, is_held, is_done, is_passed, may_be_below, is_child, moved}
use Rattle.collectives.specs.Stages.Stage.{Done}
use Rattle.collectives.specs.System.{StagesFit, Waits}
use Rattle.collectives.proofs.TreeLemmas.{IsChild, children_are, parent_less, end_within, end_behind, end_nested, parent_first, parent_next}
use Rattle.collectives.proofs.StageLemmas.{not_child, moved_own, moved_child, moved_other, moved_fit, parent_in}

-- lists of numbers on which two tests agree
pub filter_same : (p q : ℕ → Bool) (xs : List ℕ) → All (λ x. p x ≡ q x) xs → filter p xs ≡ filter q xs
filter_same p q [] h = refl
filter_same p q (x ∷ xs) h =
    let e : p x ≡ q x = All-head (λ y. p y ≡ q y) x xs h in
    let rest : filter p xs ≡ filter q xs = filter_same p q xs (All-tail (λ y. p y ≡ q y) x xs h) in
    rw (e, rest) refl

pub all_same : (p q : ℕ → Bool) (xs : List ℕ) → All (λ x. p x ≡ q x) xs → list_all p xs ≡ list_all q xs
all_same p q [] h = refl
all_same p q (x ∷ xs) h =
    let e : p x ≡ q x = All-head (λ y. p y ≡ q y) x xs h in
    let rest : list_all p xs ≡ list_all q xs = all_same p q xs (All-tail (λ y. p y ≡ q y) x xs h) in
    rw (e, rest) refl

pub filter_none : {X : Type 0} (p : X → Bool) (xs : List X) → All (λ x. p x ≡ false) xs → filter p xs ≡ []
filter_none p [] h = refl
filter_none p (x ∷ xs) h =
    let e : p x ≡ false = All-head (λ y. p y ≡ false) x xs h in
    rw e (filter_none p xs (All-tail (λ y. p y ≡ false) x xs h))

-- numbers behind a child
chain_behind : (f n c e b : ℕ) → b < c → e ≤ n → All (λ x. b < x) (children_from f n c e)
chain_behind zero n c e b less cut = All-nil (λ x. b < x)
chain_behind (suc f) n c e b less cut = elim (cases_Bool (nat_lt c e)) [
  | inl t ↦
      let here : c < e = ltb-true c e t in
      let more : c < end_of n c = end_behind n c (omega arith) in
      rw t (All-cons (λ x. b < x) c (children_from f n (end_of n c) e) less (chain_behind f n (end_of n c) e b (omega arith) cut))
  | inr no_more ↦ rw no_more (All-nil (λ x. b < x))
]

-- each member whose parent it is stands among the children, once
chain_once : (f n i c k : ℕ) → i < n → n ≤ 65536 → i < c → (c < end_of n i → parent_of c ≡ i) → 0 < k → k < end_of n i → parent_of k ≡ i → c ≤ k → end_of n i - c ≤ f
    → filter (λ x. nat_eq x k) (children_from f n c (end_of n i)) ≡ k ∷ []
chain_once zero n i c k within room behind is some low child from fuel = absurd (omega arith)
chain_once (suc f) n i c k within room behind is some low child from fuel =
    let e : ℕ = end_of n i in
    let less : c < e = omega arith in
    let inside : c < n = omega (arith, end_within n i) in
    let more : c < end_of n c = end_behind n c inside in
    let rest : List ℕ = children_from f n (end_of n c) e in
    let these : children_from (suc f) n c e ≡ c ∷ rest = cond-true (nat_lt c e) (c ∷ rest) [] (lt-ltb c e less) in
    let same : filter (λ x. nat_eq x k) (children_from (suc f) n c e) ≡ filter (λ x. nat_eq x k) (c ∷ rest) = ap (filter (λ x. nat_eq x k)) these in
    same ∙ (elim (cases_eq c k) [
      | inl e ↦
          let later : All (λ x. c < x) rest = chain_behind f n (end_of n c) (end_of n i) c more (end_within n i) in
          let none : filter (λ x. nat_eq x k) rest ≡ [] = filter_none (λ x. nat_eq x k) rest
          (All-weaker (λ x. c < x) (λ x. nat_eq x k ≡ false) (λ x q. ne_eqb x k (λ h. absurd (omega arith))) rest later) in
          cond-true (nat_eq c k) (c ∷ filter (λ x. nat_eq x k) rest) (filter (λ x. nat_eq x k) rest) (eq-eqb c k e) ∙ (ap (λ xs. c ∷ xs) none ∙ ap (λ x. x ∷ []) e)
      | inr other ↦
          let past : end_of n c ≤ k = elim (cases_lt k (end_of n c)) [
            | inr h ↦ h
            | inl h ↦ absurd (omega (arith, parent_in n c k room (omega arith) h))
          ] in
          let Q : ℕ → Type 0 = λ x. end_of n c < end_of n x in
          let next : end_of n c < end_of n i → parent_of (end_of n c) ≡ i = λ q. parent_next n c (omega arith) inside room (subst Q (sym (is less)) q) ∙ is less in
          cond-false (nat_eq c k) (c ∷ filter (λ x. nat_eq x k) rest) (filter (λ x. nat_eq x k) rest) (ne_eqb c k other)
          ∙ chain_once f n i (end_of n c) k within room (omega arith) next some low child past (omega arith)
    ])

pub child_once : (n k : ℕ) → 0 < k → k < n → n ≤ 65536 → filter (λ x. nat_eq x k) (children n (parent_of k)) ≡ k ∷ []
child_once n k some within room =
    let i : ℕ = parent_of k in
    let less : i < k = parent_less k some in
    let low : k < end_of n i = let a : k < end_of n k = end_behind n k within in let b : end_of n k ≤ end_of n i = end_nested n k some within room in omega arith in
    chain_once n n i (i + 1) k (omega arith) room (omega arith) (λ h. parent_first n i (omega arith) room h) some low refl (omega arith) (omega (arith, end_within n i))

-- what holds at each child of a list holds at each member whose parent it is
all_at : (p : ℕ → Bool) (xs : List ℕ) (k : ℕ) (rest : List ℕ) → filter (λ x. nat_eq x k) xs ≡ k ∷ rest → list_all p xs ≡ true → p k ≡ true
all_at p [] k rest is all = cc
all_at p (x ∷ xs) k rest is all =
    let both = and_parts (p x) (list_all p xs) all in
    elim (cases_Bool (nat_eq x k)) [
      | inl t ↦ ap p (sym (eqb-true x k t)) ∙ both.0
      | inr f ↦ all_at p xs k rest (sym (cond-false (nat_eq x k) (x ∷ filter (λ y. nat_eq y k) xs) (filter (λ y. nat_eq y k) xs) f) ∙ is) both.1
    ]

pub child_holds : (n k : ℕ) (p : ℕ → Bool) → 0 < k → k < n → n ≤ 65536 → list_all p (children n (parent_of k)) ≡ true → p k ≡ true
child_holds n k p some within room all = all_at p (children n (parent_of k)) k [] (child_once n k some within room) all

-- the next stages of a member and its children
pub record AreNext (own below : Stage) : Type 0 where
  pub own_not_held : is_held own ≡ false
  pub below_not_held : is_held below ≡ false
  pub own_not_apart : is_apart own ≡ false
  pub below_not_apart : is_apart below ≡ false
  pub between : may_be_below own below ≡ true
  pub under : (c : Stage) → may_be_below below c ≡ is_passed c

-- a member that goes on
pub record GoesOn (n : ℕ) (who : ℕ → Bool) (stage : ℕ → Stage) (i : ℕ) (own below : Stage) : Type 0 where
  pub fits : StagesFit n who stage
  pub room : n ≤ 65536
  pub within : i < n
  pub next : AreNext own below
  pub above : 0 < i → may_be_below (stage (parent_of i)) own ≡ true
  pub at_top : i ≡ 0 → own ≡ Done
  pub not_held : is_held (stage i) ≡ false
  pub has_joined : who i ≡ true
  pub children_joined : (k : ℕ) → 0 < k → k < n → parent_of k ≡ i → is_apart (stage k) ≡ false
  pub ready : (k : ℕ) → 0 < k → k < n → parent_of k ≡ i → (c : Stage) → may_be_below (stage k) c ≡ is_passed c
  pub others_wait : (k : ℕ) → k < n → k ≢ i → Waits n who stage k

pub go_fit : (n : ℕ) (who : ℕ → Bool) (stage : ℕ → Stage) (i : ℕ) (own below : Stage) → GoesOn n who stage i own below → StagesFit n who (moved stage i own below)
go_fit n who stage i own below g =
    let new : ℕ → Stage = moved stage i own below in
    record {
      fit = moved_fit n stage i own below g.fits.fit g.above g.next.between
          (λ k l some within child l_some l_within l_child.
          let P : ℕ → Type 0 = λ x. may_be_below (stage x) (stage l) ≡ true in
          let passed : is_passed (stage l) ≡ true = sym (g.ready k some within child (stage l)) ∙ subst P l_child (g.fits.fit l l_some l_within) in
          g.next.under (stage l) ∙ passed);
      top = elim (cases_eq 0 i) [
        | inl e ↦
            let is : new 0 ≡ Done = ap new e ∙ (moved_own stage i own below ∙ g.at_top (sym e)) in
            ap (λ x. is_apart x || is_done x) is
        | inr other ↦
            let is : new 0 ≡ stage 0 = moved_other stage i 0 own below other refl in
            ap (λ x. is_apart x || is_done x) is ∙ g.fits.top
      ];
      joined = λ k within not_apart. elim (cases_eq k i) [
        | inl e ↦ ap who e ∙ g.has_joined
        | inr other ↦ elim (cases_Bool (is_child i k)) [
          | inl child ↦
              let parts = and_parts (not (nat_eq k 0)) (nat_eq (parent_of k) i) child in
              let some : 0 < k = let h : k ≢ 0 = eqb-false k 0 (not-true (nat_eq k 0) parts.0) in omega arith in
              g.fits.joined k within (g.children_joined k some within (eqb-true (parent_of k) i parts.1))
          | inr none ↦ g.fits.joined k within (ap is_apart (sym (moved_other stage i k own below other none)) ∙ not_apart)
        ]
      ];
    }

-- which messages are held by another member
held_as_before : (n : ℕ) (who : ℕ → Bool) (stage : ℕ → Stage) (i : ℕ) (own below : Stage) → GoesOn n who stage i own below → (k : ℕ) → k < n → k ≢ i
    → All (λ c. is_held (stage c) ≡ is_held (moved stage i own below c)) (children n k)
held_as_before n who stage i own below g k within other =
    All-weaker (IsChild n k) (λ c. is_held (stage c) ≡ is_held (moved stage i own below c))
    (λ c is. elim (cases_eq c i) [
      | inl e ↦
          let old : is_held (stage c) ≡ false = ap (λ x. is_held (stage x)) e ∙ g.not_held in
          let new : is_held (moved stage i own below c) ≡ false = ap (λ x. is_held (moved stage i own below x)) e ∙ (ap is_held (moved_own stage i own below) ∙ g.next.own_not_held) in
          old ∙ sym new
      | inr differs ↦ ap is_held (sym (moved_other stage i c own below differs (not_child i c (λ h. other (sym is.parent ∙ h)))))
    ]) (children n k) (children_are n k within g.room)

pub go_wait : (n : ℕ) (who : ℕ → Bool) (stage : ℕ → Stage) (i : ℕ) (own below : Stage) → GoesOn n who stage i own below → (k : ℕ) → k < n → Waits n who (moved stage i own below) k
go_wait n who stage i own below g k within apart some = elim (cases_eq k i) [
  | inl e ↦ absurd (true≢false (sym apart ∙ (ap (λ x. is_apart (moved stage i own below x)) e ∙ (ap is_apart (moved_own stage i own below) ∙ g.next.own_not_apart))))
  | inr other ↦ elim (cases_Bool (is_child i k)) [
    | inl child ↦
        let parts = and_parts (not (nat_eq k 0)) (nat_eq (parent_of k) i) child in
        let is : moved stage i own below k ≡ below =
        cond-false (nat_eq k i) own (cond (is_child i k) below (stage k)) (ne_eqb k i other) ∙ cond-true (is_child i k) below (stage k) child in
        absurd (true≢false (sym apart ∙ (ap is_apart is ∙ g.next.below_not_apart)))
    | inr none ↦
        let was : is_apart (stage k) ≡ true = ap is_apart (sym (moved_other stage i k own below other none)) ∙ apart in
        sym (all_same (λ c. is_held (stage c)) (λ c. is_held (moved stage i own below c)) (children n k) (held_as_before n who stage i own below g k within other))
        ∙ g.others_wait k within other was some
  ]
]

-- what is held then, where the member's own tree part has no message of the collective any more
pub go_held : (ctx : List Level) (position n : ℕ) (given : Given) (who : ℕ → Bool) (stage : ℕ → Stage) (i : ℕ) (own below : Stage) (trees new : ℕ → List TreeMsg) → GoesOn n who stage i own below
    → ((k : ℕ) → k < n → k ≢ i → filter (is_up_of ctx position) (new k) ≡ filter (is_up_of ctx position) (trees k)) → filter (is_up_of ctx position) (new i) ≡ []
    → ((k : ℕ) → k < n → k ≢ i → filter (is_up_of ctx position) (trees k) ≡ map (up_of ctx position n given) (filter (λ c. is_held (stage c)) (children n k)))
    → (k : ℕ) → k < n → filter (is_up_of ctx position) (new k) ≡ map (up_of ctx position n given) (filter (λ c. is_held (moved stage i own below c)) (children n k))
go_held ctx position n given who stage i own below trees new g same here old k within = elim (cases_eq k i) [
  | inl e ↦
      let none : All (λ c. is_held (moved stage i own below c) ≡ false) (children n i) =
      All-weaker (IsChild n i) (λ c. is_held (moved stage i own below c) ≡ false)
      (λ c is. ap is_held (moved_child stage i c own below (omega (arith, is.behind)) is.parent) ∙ g.next.below_not_held) (children n i) (children_are n i g.within g.room) in
      let nothing : map (up_of ctx position n given) (filter (λ c. is_held (moved stage i own below c)) (children n i)) ≡ [] =
      ap (map (up_of ctx position n given)) (filter_none (λ c. is_held (moved stage i own below c)) (children n i) none) in
      ap (λ x. filter (is_up_of ctx position) (new x)) e ∙ (here ∙ (sym nothing
      ∙ ap (λ x. map (up_of ctx position n given) (filter (λ c. is_held (moved stage i own below c)) (children n x))) (sym e)))
  | inr other ↦
      same k within other ∙ (old k within other
      ∙ ap (map (up_of ctx position n given)) (filter_same (λ c. is_held (stage c)) (λ c. is_held (moved stage i own below c)) (children n k) (held_as_before n who stage i own below g k within other)))
]
