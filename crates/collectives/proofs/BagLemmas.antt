-- What is under way after a member has sent, and after a message has arrived.
use Rattle.std.proofs.Common.{ℕ, ◌≡◌, ◌≢◌, ◌<◌, ◌≤◌, inl, inr, List, [], ◌∷◌, ◌++◌, map, cond, Bool, true, false, ◌&&◌, refl, sym, subst, ap, ◌∙◌, arith, append-nil}
use Rattle.std.specs.Prelude.{nat_eq, not, All, filter}
use Rattle.std.proofs.lemmas.Bool.{cases_Bool, cases_eq, and_parts, and_from, and_left, and_right, eqb-true, eqb-false, eq-eqb, ne_eqb, true≢false, cond-true, cond-false, not-true}
use Rattle.std.proofs.lemmas.List.Elements.{All-nil, All-cons, All-head, All-tail, All-weaker, filter-append}
use Rattle.mpi_types.specs.declared.argument.TreeMsg.{TreeMsg}
use Rattle.mpi_types.specs.declared.context.Level.{Level}
use Rattle.mpi_types.specs.Accepts.{is_same_ctx}
use Rattle.mpi_types.proofs.AcceptLemmas.{contexts_tell}
use Rattle.collectives.specs.Tree.{parent_of, children}
use Rattle.collectives.specs.Held.{is_up, is_up_of}
use Rattle.collectives.specs.Slices.{Given, up_of, down_of}
use Rattle.collectives.specs.Stages.{Stage, is_rising, is_held, is_falling, is_child, moved}
use Rattle.collectives.specs.Stages.Stage.{Rising, Passed, Falling, Done}
use Rattle.collectives.specs.System.{Parcel, MessagesAre, is_down_of, goes_up_from, goes_down_to}
use Rattle.collectives.proofs.TreeLemmas.{IsChild, children_are, end_within}
use Rattle.collectives.proofs.StageLemmas.{child_test, moved_own, moved_child, moved_other}
use Rattle.collectives.proofs.GoLemmas.{filter_none, child_once}

same_ctx : (ctx : List Level) → is_same_ctx ctx ctx ≡ true
same_ctx ctx = (contexts_tell ctx ctx).1 refl

same_place : (ctx : List Level) (position : ℕ) → (is_same_ctx ctx ctx && nat_eq position position) ≡ true
same_place ctx position = and_from (is_same_ctx ctx ctx) (nat_eq position position) (same_ctx ctx) (eq-eqb position position refl)

pub up_is_up : (ctx : List Level) (position n : ℕ) (given : Given) (i : ℕ) → is_up_of ctx position (up_of ctx position n given i) ≡ true
up_is_up ctx position n given i = and_from (is_same_ctx ctx ctx && nat_eq position position) true (same_place ctx position) refl

pub down_is_down : (ctx : List Level) (position n : ℕ) (given : Given) (i : ℕ) → is_down_of ctx position (down_of ctx position n given i) ≡ true
down_is_down ctx position n given i = and_from (is_same_ctx ctx ctx && nat_eq position position) true (same_place ctx position) refl

-- up and down exclude each other
pub up_not_down : (ctx : List Level) (position : ℕ) (m : TreeMsg) → is_up m.direction ≡ true → is_down_of ctx position m ≡ false
up_not_down ctx position m up = and_right (is_same_ctx m.ctx ctx && nat_eq m.position position) (not (is_up m.direction)) (ap not up)

pub down_not_up : (ctx : List Level) (position : ℕ) (m : TreeMsg) → is_up m.direction ≡ false → is_up_of ctx position m ≡ false
down_not_up ctx position m down = and_right (is_same_ctx m.ctx ctx && nat_eq m.position position) (is_up m.direction) down

-- one more that fails a test, and one that passes
pub filter_one_less : {X : Type 0} (p : X → Bool) (bag : List X) (x : X) → p x ≡ false → filter p (bag ++ x ∷ []) ≡ filter p bag
filter_one_less p bag x e = filter-append p bag (x ∷ []) ∙ (ap (λ xs. filter p bag ++ xs) (cond-false (p x) (x ∷ []) [] e) ∙ append-nil (filter p bag))

pub filter_one_more : {X : Type 0} (p : X → Bool) (bag : List X) (x : X) → p x ≡ true → filter p (bag ++ x ∷ []) ≡ filter p bag ++ x ∷ []
filter_one_more p bag x e = filter-append p bag (x ∷ []) ∙ ap (λ xs. filter p bag ++ xs) (cond-true (p x) (x ∷ []) [] e)

pub filter_all_less : {X : Type 0} (p : X → Bool) (bag more : List X) → All (λ x. p x ≡ false) more → filter p (bag ++ more) ≡ filter p bag
filter_all_less p bag more h = filter-append p bag more ∙ (ap (λ xs. filter p bag ++ xs) (filter_none p more h) ∙ append-nil (filter p bag))

-- one taken out of the middle
pub taken_other : {X : Type 0} (p : X → Bool) (before : List X) (x : X) (after : List X) → p x ≡ false → filter p (before ++ after) ≡ filter p (before ++ x ∷ after)
taken_other p [] x after e = sym (cond-false (p x) (x ∷ filter p after) (filter p after) e)
taken_other p (y ∷ before) x after e = elim (cases_Bool (p y)) [
  | inl t ↦ rw t (ap (λ xs. y ∷ xs) (taken_other p before x after e))
  | inr f ↦ rw f (taken_other p before x after e)
]

pub taken_one : {X : Type 0} (p : X → Bool) (before : List X) (x : X) (after : List X) (y : X) → p x ≡ true → filter p (before ++ x ∷ after) ≡ y ∷ [] → (x ≡ y) × (filter p (before ++ after) ≡ [])
taken_one p [] x after y e is = let one : x ∷ filter p after ≡ y ∷ [] = sym (cond-true (p x) (x ∷ filter p after) (filter p after) e) ∙ is in (cc, cc)
taken_one p (z ∷ before) x after y e is = elim (cases_Bool (p z)) [
  | inl t ↦
      let all : z ∷ filter p (before ++ x ∷ after) ≡ y ∷ [] = sym (cond-true (p z) (z ∷ filter p (before ++ x ∷ after)) (filter p (before ++ x ∷ after)) t) ∙ is in
      let none : filter p (before ++ x ∷ after) ≡ [] = cc in
      absurd (not_none p before x after e none)
  | inr f ↦
      let all : filter p (before ++ x ∷ after) ≡ y ∷ [] = sym (cond-false (p z) (z ∷ filter p (before ++ x ∷ after)) (filter p (before ++ x ∷ after)) f) ∙ is in
      let rest = taken_one p before x after y e all in
      (rest.0, cond-false (p z) (z ∷ filter p (before ++ after)) (filter p (before ++ after)) f ∙ rest.1)
]
  where
    not_none : {X : Type 0} (p : X → Bool) (before : List X) (x : X) (after : List X) → p x ≡ true → filter p (before ++ x ∷ after) ≡ [] → ⊥
    not_none p [] x after e none = let one : x ∷ filter p after ≡ [] = sym (cond-true (p x) (x ∷ filter p after) (filter p after) e) ∙ none in cc
    not_none p (z ∷ before) x after e none = elim (cases_Bool (p z)) [
      | inl t ↦ let one : z ∷ filter p (before ++ x ∷ after) ≡ [] = sym (cond-true (p z) (z ∷ filter p (before ++ x ∷ after)) (filter p (before ++ x ∷ after)) t) ∙ none in cc
      | inr f ↦ not_none p before x after e (sym (cond-false (p z) (z ∷ filter p (before ++ x ∷ after)) (filter p (before ++ x ∷ after)) f) ∙ none)
    ]

pub taken_none : {X : Type 0} (p : X → Bool) (before : List X) (x : X) (after : List X) → p x ≡ true → filter p (before ++ x ∷ after) ≡ [] → ⊥
taken_none p [] x after e none = let one : x ∷ filter p after ≡ [] = sym (cond-true (p x) (x ∷ filter p after) (filter p after) e) ∙ none in cc
taken_none p (z ∷ before) x after e none = elim (cases_Bool (p z)) [
  | inl t ↦ let one : z ∷ filter p (before ++ x ∷ after) ≡ [] = sym (cond-true (p z) (z ∷ filter p (before ++ x ∷ after)) (filter p (before ++ x ∷ after)) t) ∙ none in cc
  | inr f ↦ taken_none p before x after e (sym (cond-false (p z) (z ∷ filter p (before ++ x ∷ after)) (filter p (before ++ x ∷ after)) f) ∙ none)
]

-- tests of stages that move
pub moved_test : (test : Stage → Bool) (stage : ℕ → Stage) (i : ℕ) (own below : Stage) (n k : ℕ) → test own ≡ test (stage i)
    → ((c : ℕ) → 0 < c → c < n → parent_of c ≡ i → test below ≡ test (stage c)) → k < n → test (moved stage i own below k) ≡ test (stage k)
moved_test test stage i own below n k at_own at_child within = elim (cases_eq k i) [
  | inl e ↦ ap (λ x. test (moved stage i own below x)) e ∙ (ap test (moved_own stage i own below) ∙ (at_own ∙ ap (λ x. test (stage x)) (sym e)))
  | inr other ↦ elim (cases_Bool (is_child i k)) [
    | inl child ↦
        let parts = and_parts (not (nat_eq k 0)) (nat_eq (parent_of k) i) child in
        let some : 0 < k = let h : k ≢ 0 = eqb-false k 0 (not-true (nat_eq k 0) parts.0) in omega arith in
        let from : parent_of k ≡ i = eqb-true (parent_of k) i parts.1 in
        ap test (moved_child stage i k own below some from) ∙ at_child k some within from
    | inr none ↦ ap test (moved_other stage i k own below other none)
  ]
]

-- the parcels to children
abbrev pub parcel_down : List Level → ℕ → ℕ → (ℕ → ℕ) → Given → ℕ → ℕ → Parcel
parcel_down ctx position n rank given i c = record { to = rank c; message = down_of ctx position n given i }

filter_map_same : (p : Parcel → Bool) (q : ℕ → Bool) (f : ℕ → Parcel) (cs : List ℕ) → All (λ c. p (f c) ≡ q c) cs → filter p (map f cs) ≡ map f (filter q cs)
filter_map_same p q f [] h = refl
filter_map_same p q f (c ∷ cs) h =
    let e : p (f c) ≡ q c = All-head (λ x. p (f x) ≡ q x) c cs h in
    let rest : filter p (map f cs) ≡ map f (filter q cs) = filter_map_same p q f cs (All-tail (λ x. p (f x) ≡ q x) c cs h) in
    elim (cases_Bool (q c)) [
      | inl t ↦ rw (e, t) (ap (λ xs. f c ∷ xs) rest)
      | inr n ↦ rw (e, n) rest
    ]

pub downs_to : (ctx : List Level) (position n : ℕ) (rank : ℕ → ℕ) (given : Given) (i k : ℕ) → i < n → n ≤ 65536 → k < n
    → ((x y : ℕ) → x < n → y < n → rank x ≡ rank y → x ≡ y)
    → filter (goes_down_to ctx position (rank k)) (map (parcel_down ctx position n rank given i) (children n i))
    ≡ map (parcel_down ctx position n rank given i) (filter (λ c. nat_eq c k) (children n i))
downs_to ctx position n rank given i k within room inside distinct =
    filter_map_same (goes_down_to ctx position (rank k)) (λ c. nat_eq c k) (parcel_down ctx position n rank given i) (children n i)
    (All-weaker (IsChild n i) (λ c. goes_down_to ctx position (rank k) (parcel_down ctx position n rank given i c) ≡ nat_eq c k)
    (λ c is. elim (cases_eq c k) [
      | inl e ↦
          let at : nat_eq (rank c) (rank k) ≡ true = eq-eqb (rank c) (rank k) (ap rank e) in
          and_from (is_down_of ctx position (down_of ctx position n given i)) (nat_eq (rank c) (rank k)) (down_is_down ctx position n given i) at ∙ sym (eq-eqb c k e)
      | inr other ↦
          let at : nat_eq (rank c) (rank k) ≡ false = ne_eqb (rank c) (rank k) (λ h. other (distinct c k (omega (arith, is.within, end_within n i)) inside h)) in
          and_right (is_down_of ctx position (down_of ctx position n given i)) (nat_eq (rank c) (rank k)) at ∙ sym (ne_eqb c k other)
    ]) (children n i) (children_are n i within room))

-- none of them goes up, and none goes to a rank that is no member
pub downs_not_up : (ctx' : List Level) (position' k : ℕ) (ctx : List Level) (position n : ℕ) (rank : ℕ → ℕ) (given : Given) (i : ℕ) (cs : List ℕ)
    → All (λ x. goes_up_from ctx' position' k x ≡ false) (map (parcel_down ctx position n rank given i) cs)
downs_not_up ctx' position' k ctx position n rank given i [] = All-nil (λ x. goes_up_from ctx' position' k x ≡ false)
downs_not_up ctx' position' k ctx position n rank given i (c ∷ cs) =
    All-cons (λ x. goes_up_from ctx' position' k x ≡ false) (parcel_down ctx position n rank given i c) (map (parcel_down ctx position n rank given i) cs)
    (and_left (is_up_of ctx' position' (down_of ctx position n given i)) (nat_eq i k) (down_not_up ctx' position' (down_of ctx position n given i) refl))
    (downs_not_up ctx' position' k ctx position n rank given i cs)

-- a member's message goes up
pub bag_rises : (ctx : List Level) (position n : ℕ) (rank : ℕ → ℕ) (given : Given) (stage : ℕ → Stage) (i : ℕ) (trees new : ℕ → List TreeMsg) (bag : List Parcel)
    → i < n → MessagesAre ctx position n rank given stage trees bag → is_rising (stage i) ≡ false → is_falling (stage i) ≡ false
    → ((c : ℕ) → 0 < c → c < n → parent_of c ≡ i → (is_rising (stage c) ≡ false) × (is_falling (stage c) ≡ false))
    → ((k : ℕ) → k < n → filter (is_up_of ctx position) (new k) ≡ map (up_of ctx position n given) (filter (λ c. is_held (moved stage i Rising Passed c)) (children n k)))
    → MessagesAre ctx position n rank given (moved stage i Rising Passed) new (bag ++ record { to = rank (parent_of i); message = up_of ctx position n given i } ∷ [])
bag_rises ctx position n rank given stage i trees new bag within m not_rising not_falling below held =
    let p : Parcel = record { to = rank (parent_of i); message = up_of ctx position n given i } in
    let stage' : ℕ → Stage = moved stage i Rising Passed in
    let up : is_up_of ctx position p.message ≡ true = up_is_up ctx position n given i in
    record {
      held = held;
      rising = λ k inside. elim (cases_eq k i) [
        | inl e ↦
            let passes : goes_up_from ctx position i p ≡ true = and_from (is_up_of ctx position p.message) (nat_eq i i) up (eq-eqb i i refl) in
            let old : filter (goes_up_from ctx position i) bag ≡ [] = m.rising i within ∙ cond-false (is_rising (stage i)) (p ∷ []) [] not_rising in
            let now : is_rising (stage' i) ≡ true = ap is_rising (moved_own stage i Rising Passed) in
            let P : ℕ → Type 0 = λ x. filter (goes_up_from ctx position x) (bag ++ p ∷ [])
            ≡ (cond (is_rising (stage' x)) (let q : Parcel = record { to = rank (parent_of x); message = up_of ctx position n given x } in q ∷ []) []) in
            subst P (sym e) (filter_one_more (goes_up_from ctx position i) bag p passes ∙ (ap (λ xs. xs ++ p ∷ []) old ∙ sym (cond-true (is_rising (stage' i)) (p ∷ []) [] now)))
        | inr other ↦
            let fails : goes_up_from ctx position k p ≡ false = and_right (is_up_of ctx position p.message) (nat_eq i k) (ne_eqb i k (λ e. other (sym e))) in
            let same : is_rising (stage' k) ≡ is_rising (stage k) = other_rising stage i k n other inside (λ c some w from. (below c some w from).0) in
            filter_one_less (goes_up_from ctx position k) bag p fails ∙ (m.rising k inside ∙ ap (λ b. cond b (let q : Parcel = record { to = rank (parent_of k); message = up_of ctx position n given k } in q ∷ []) []) (sym same))
      ];
      no_others = λ k past.
          let fails : goes_up_from ctx position k p ≡ false = and_right (is_up_of ctx position p.message) (nat_eq i k) (ne_eqb i k (λ e. absurd (omega arith))) in
          filter_one_less (goes_up_from ctx position k) bag p fails ∙ m.no_others k past;
      falling = λ k inside.
          let fails : goes_down_to ctx position (rank k) p ≡ false = and_left (is_down_of ctx position p.message) (nat_eq p.to (rank k)) (up_not_down ctx position p.message refl) in
          let same : is_falling (stage' k) ≡ is_falling (stage k) = moved_test is_falling stage i Rising Passed n k (sym not_falling) (λ c some w from. sym (below c some w from).1) inside in
          filter_one_less (goes_down_to ctx position (rank k)) bag p fails ∙ (m.falling k inside ∙ ap (λ b. cond b (let q : Parcel = record { to = rank k; message = down_of ctx position n given (parent_of k) } in q ∷ []) []) (sym same));
      no_strays = λ r none.
          let fails : goes_down_to ctx position r p ≡ false = and_left (is_down_of ctx position p.message) (nat_eq p.to r) (up_not_down ctx position p.message refl) in
          filter_one_less (goes_down_to ctx position r) bag p fails ∙ m.no_strays r none;
    }
  where
    other_rising : (stage : ℕ → Stage) (i k n : ℕ) → k ≢ i → k < n → ((c : ℕ) → 0 < c → c < n → parent_of c ≡ i → is_rising (stage c) ≡ false) → is_rising (moved stage i Rising Passed k) ≡ is_rising (stage k)
    other_rising stage i k n other inside below = elim (cases_Bool (is_child i k)) [
      | inl child ↦
          let parts = and_parts (not (nat_eq k 0)) (nat_eq (parent_of k) i) child in
          let some : 0 < k = let h : k ≢ 0 = eqb-false k 0 (not-true (nat_eq k 0) parts.0) in omega arith in
          let from : parent_of k ≡ i = eqb-true (parent_of k) i parts.1 in
          ap is_rising (moved_child stage i k Rising Passed some from) ∙ sym (below k some inside from)
      | inr none ↦ ap is_rising (moved_other stage i k Rising Passed other none)
    ]

-- a member has gathered, and sends the list to its children; the list that came to it, if one did, is no longer under way
pub bag_falls : (ctx : List Level) (position n : ℕ) (rank : ℕ → ℕ) (given : Given) (stage : ℕ → Stage) (i : ℕ) (new : ℕ → List TreeMsg) (bag : List Parcel)
    → i < n → n ≤ 65536 → ((x y : ℕ) → x < n → y < n → rank x ≡ rank y → x ≡ y)
    → ((k : ℕ) → k < n → filter (goes_up_from ctx position k) bag ≡ (cond (is_rising (stage k)) (let q : Parcel = record { to = rank (parent_of k); message = up_of ctx position n given k } in q ∷ []) []))
    → ((k : ℕ) → n ≤ k → filter (goes_up_from ctx position k) bag ≡ [])
    → ((k : ℕ) → k < n → k ≢ i → filter (goes_down_to ctx position (rank k)) bag ≡ (cond (is_falling (stage k)) (let q : Parcel = record { to = rank k; message = down_of ctx position n given (parent_of k) } in q ∷ []) []))
    → filter (goes_down_to ctx position (rank i)) bag ≡ []
    → ((r : ℕ) → ((k : ℕ) → k < n → rank k ≢ r) → filter (goes_down_to ctx position r) bag ≡ [])
    → is_rising (stage i) ≡ false
    → ((c : ℕ) → 0 < c → c < n → parent_of c ≡ i → (is_rising (stage c) ≡ false) × (is_falling (stage c) ≡ false))
    → ((k : ℕ) → k < n → filter (is_up_of ctx position) (new k) ≡ map (up_of ctx position n given) (filter (λ c. is_held (moved stage i Done Falling c)) (children n k)))
    → MessagesAre ctx position n rank given (moved stage i Done Falling) new (bag ++ map (parcel_down ctx position n rank given i) (children n i))
bag_falls ctx position n rank given stage i new bag within room distinct rising no_others falling here no_strays not_rising below held =
    let stage' : ℕ → Stage = moved stage i Done Falling in
    let f : ℕ → Parcel = parcel_down ctx position n rank given i in
    let downs : List Parcel = map f (children n i) in
    record {
      held = held;
      rising = λ k inside.
          let same : is_rising (stage' k) ≡ is_rising (stage k) = moved_test is_rising stage i Done Falling n k (sym not_rising) (λ c some w from. sym (below c some w from).0) inside in
          filter_all_less (goes_up_from ctx position k) bag downs (downs_not_up ctx position k ctx position n rank given i (children n i))
          ∙ (rising k inside ∙ ap (λ b. cond b (let q : Parcel = record { to = rank (parent_of k); message = up_of ctx position n given k } in q ∷ []) []) (sym same));
      no_others = λ k past. filter_all_less (goes_up_from ctx position k) bag downs (downs_not_up ctx position k ctx position n rank given i (children n i)) ∙ no_others k past;
      falling = λ k inside.
          let parts : filter (goes_down_to ctx position (rank k)) (bag ++ downs) ≡ filter (goes_down_to ctx position (rank k)) bag ++ map f (filter (λ c. nat_eq c k) (children n i)) =
          filter-append (goes_down_to ctx position (rank k)) bag downs ∙ ap (λ xs. filter (goes_down_to ctx position (rank k)) bag ++ xs) (downs_to ctx position n rank given i k within room inside distinct) in
          parts ∙ (elim (cases_eq k i) [
            | inl e ↦
                let none : filter (λ c. nat_eq c k) (children n i) ≡ [] = filter_none (λ c. nat_eq c k) (children n i)
                (All-weaker (IsChild n i) (λ c. nat_eq c k ≡ false) (λ c is. ne_eqb c k (λ h. absurd (omega (arith, is.behind)))) (children n i) (children_are n i within room)) in
                let old : filter (goes_down_to ctx position (rank k)) bag ≡ [] = ap (λ x. filter (goes_down_to ctx position (rank x)) bag) e ∙ here in
                let now : is_falling (stage' k) ≡ false = ap (λ x. is_falling (stage' x)) e ∙ ap is_falling (moved_own stage i Done Falling) in
                rw (old, none, now) refl
            | inr other ↦ elim (cases_Bool (is_child i k)) [
              | inl child ↦
                  let tests = and_parts (not (nat_eq k 0)) (nat_eq (parent_of k) i) child in
                  let some : 0 < k = let h : k ≢ 0 = eqb-false k 0 (not-true (nat_eq k 0) tests.0) in omega arith in
                  let from : parent_of k ≡ i = eqb-true (parent_of k) i tests.1 in
                  let one : filter (λ c. nat_eq c k) (children n i) ≡ k ∷ [] = ap (λ x. filter (λ c. nat_eq c k) (children n x)) (sym from) ∙ child_once n k some inside room in
                  let old : filter (goes_down_to ctx position (rank k)) bag ≡ [] = falling k inside other ∙ cond-false (is_falling (stage k)) _ [] (below k some inside from).1 in
                  let now : is_falling (stage' k) ≡ true = ap is_falling (moved_child stage i k Done Falling some from) in
                  let brings : f k ≡ (let q : Parcel = record { to = rank k; message = down_of ctx position n given (parent_of k) } in q) = ap (λ x. parcel_down ctx position n rank given x k) (sym from) in
                  rw (old, one, now) (ap (λ x. x ∷ []) brings)
              | inr no_child ↦
                  let none : filter (λ c. nat_eq c k) (children n i) ≡ [] = filter_none (λ c. nat_eq c k) (children n i)
                  (All-weaker (IsChild n i) (λ c. nat_eq c k ≡ false)
                  (λ c is. ne_eqb c k (λ h. absurd (true≢false (sym (child_test i k (omega (arith, is.behind)) (ap parent_of (sym h) ∙ is.parent)) ∙ no_child)))) (children n i) (children_are n i within room)) in
                  let same : is_falling (stage' k) ≡ is_falling (stage k) = ap is_falling (moved_other stage i k Done Falling other no_child) in
                  rw (none, same) (append-nil (filter (goes_down_to ctx position (rank k)) bag) ∙ falling k inside other)
            ]
          ]);
      no_strays = λ r none.
          filter_all_less (goes_down_to ctx position r) bag downs (not_there r none (children n i) (children_are n i within room)) ∙ no_strays r none;
    }
  where
    not_there : (r : ℕ) → ((k : ℕ) → k < n → rank k ≢ r) → (cs : List ℕ) → All (IsChild n i) cs → All (λ x. goes_down_to ctx position r x ≡ false) (map (parcel_down ctx position n rank given i) cs)
    not_there r none [] h = All-nil (λ x. goes_down_to ctx position r x ≡ false)
    not_there r none (c ∷ cs) h =
        let is : IsChild n i c = All-head (IsChild n i) c cs h in
        All-cons (λ x. goes_down_to ctx position r x ≡ false) (parcel_down ctx position n rank given i c) (map (parcel_down ctx position n rank given i) cs)
        (and_right (is_down_of ctx position (down_of ctx position n given i)) (nat_eq (rank c) r) (ne_eqb (rank c) r (none c (omega (arith, is.within, end_within n i)))))
        (not_there r none cs (All-tail (IsChild n i) c cs h))
