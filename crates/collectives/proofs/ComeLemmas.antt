-- What the arrival of a message changes, over the stages of all members.
use Rattle.std.proofs.Common.{ℕ, zero, suc, ◌≡◌, ◌≢◌, ◌+◌, ◌<◌, ◌≤◌, inl, inr, List, [], ◌∷◌, ◌++◌, map, cond, Bool, true, false, ◌&&◌, ◌||◌, get_or, refl, sym, subst, ap, ◌∙◌, arith}
use Rattle.std.specs.Prelude.{nat_eq, nat_lt, All, filter}
use Rattle.std.proofs.lemmas.Bool.{cases_Bool, cases_lt, cases_eq, and_parts, and_from, and_left, and_right, eqb-true, eq-eqb, ne_eqb, true≢false, false≢true, cond-true, cond-false, lt-ltb, le-ltb, ltb-true}
use Rattle.std.proofs.lemmas.List.Elements.{All-nil, All-cons, All-head, All-tail, All-weaker}
use Rattle.mpi_types.specs.declared.argument.TreeMsg.{TreeMsg}
use Rattle.mpi_types.specs.declared.context.Level.{Level}
use Rattle.mpi_types.specs.Accepts.{is_same_ctx}
use Rattle.mpi_types.specs.Order.{is_tree_before, is_ctx_before, IsTreeOrdered}
use Rattle.mpi_types.proofs.AcceptLemmas.{contexts_tell}
use Rattle.collectives.specs.Tree.{end_of, parent_of, children, children_from}
use Rattle.collectives.specs.Held.{is_up, is_up_of, put_message}
use Rattle.collectives.specs.Slices.{Given, up_of, down_of}
use Rattle.collectives.specs.Stages.{Stage, is_apart, is_rising, is_held, is_falling, is_done, may_be_below, came_up, Fit}
use Rattle.collectives.specs.Stages.Stage.{Apart, Rising, Held, Passed, Falling, Done}
use Rattle.collectives.specs.System.{Parcel, StagesFit, Waits, MessagesAre, is_down_of, goes_up_from, goes_down_to}
use Rattle.collectives.proofs.TreeLemmas.{IsChild, children_are, parent_less, end_within, end_behind}
use Rattle.collectives.proofs.StageLemmas.{above_rising}
use Rattle.collectives.proofs.OrderLemmas.{put_filter, ctx_not_before}
use Rattle.collectives.proofs.GoLemmas.{filter_same, all_same, child_once}
use Rattle.collectives.proofs.BagLemmas.{up_not_down, taken_one, taken_other, taken_none}
use Rattle.collectives.proofs.LookLemmas.{with_tree, with_tree-same, with_tree-other}

is_it_rising : (s : Stage) → is_rising s ≡ true → s ≡ Rising
is_it_rising Rising e = refl
is_it_rising Apart e = absurd (false≢true e)
is_it_rising Held e = absurd (false≢true e)
is_it_rising Passed e = absurd (false≢true e)
is_it_rising Falling e = absurd (false≢true e)
is_it_rising Done e = absurd (false≢true e)

pub is_it_falling : (s : Stage) → is_falling s ≡ true → s ≡ Falling
is_it_falling Falling e = refl
is_it_falling Apart e = absurd (false≢true e)
is_it_falling Rising e = absurd (false≢true e)
is_it_falling Held e = absurd (false≢true e)
is_it_falling Passed e = absurd (false≢true e)
is_it_falling Done e = absurd (false≢true e)

pub came_own : (stage : ℕ → Stage) (c : ℕ) → came_up stage c c ≡ Held
came_own stage c = cond-true (nat_eq c c) Held (stage c) (eq-eqb c c refl)

pub came_other : (stage : ℕ → Stage) (c k : ℕ) → k ≢ c → came_up stage c k ≡ stage k
came_other stage c k other = cond-false (nat_eq k c) Held (stage k) (ne_eqb k c other)

-- of two messages up in one collective, that of the lesser member stands before
ups_order : (ctx : List Level) (position n : ℕ) (given : Given) (a b : ℕ) → is_tree_before (up_of ctx position n given a) (up_of ctx position n given b) ≡ nat_lt a b
ups_order ctx position n given a b =
    let no_ctx : is_ctx_before ctx ctx ≡ false = ctx_not_before ctx in
    let same : is_same_ctx ctx ctx ≡ true = (contexts_tell ctx ctx).1 refl in
    let no_position : nat_lt position position ≡ false = le-ltb position position (omega arith) in
    let same_position : nat_eq position position ≡ true = eq-eqb position position refl in
    rw (no_ctx, same, no_position, same_position) refl

-- one more among the messages of ascending children
pub put_among : (f : ℕ) (ctx : List Level) (position n : ℕ) (given : Given) (held : ℕ → Bool) (c x e : ℕ) → held c ≡ false → e ≤ n
    → filter (λ y. nat_eq y c) (children_from f n x e) ≡ c ∷ []
    → put_message (up_of ctx position n given c) (map (up_of ctx position n given) (filter held (children_from f n x e)))
    ≡ map (up_of ctx position n given) (filter (λ y. cond (nat_eq y c) true (held y)) (children_from f n x e))
put_among zero ctx position n given held c x e none cut once = cc
put_among (suc f) ctx position n given held c x e none cut once = elim (cases_Bool (nat_lt x e)) [
  | inr f' ↦ absurd (empty (sym (ap (filter (λ y. nat_eq y c)) (cond-false (nat_lt x e) (x ∷ children_from f n (end_of n x) e) [] f')) ∙ once))
  | inl t ↦
      let less : x < e = ltb-true x e t in
      let more : x < end_of n x = end_behind n x (omega arith) in
      let rest : List ℕ = children_from f n (end_of n x) e in
      let these : children_from (suc f) n x e ≡ x ∷ rest = cond-true (nat_lt x e) (x ∷ rest) [] t in
      let u : ℕ → TreeMsg = up_of ctx position n given in
      let held' : ℕ → Bool = λ y. cond (nat_eq y c) true (held y) in
      let once' : filter (λ y. nat_eq y c) (x ∷ rest) ≡ c ∷ [] = sym (ap (filter (λ y. nat_eq y c)) these) ∙ once in
      let G : List ℕ → Type 0 = λ xs. put_message (u c) (map u (filter held xs)) ≡ map u (filter held' xs) in
      subst G (sym these) (elim (cases_Bool (nat_eq x c)) [
        | inl same ↦
            let is : x ≡ c = eqb-true x c same in
            let no_x : held x ≡ false = ap held is ∙ none in
            let behind : All (λ y. c < y) rest = later f n (end_of n x) e c (omega arith) cut in
            let agree : filter held rest ≡ filter held' rest = filter_same held held' rest
            (All-weaker (λ y. c < y) (λ y. held y ≡ held' y) (λ y q. sym (cond-false (nat_eq y c) true (held y) (ne_eqb y c (λ h. absurd (omega arith))))) rest behind) in
            let front : put_message (u c) (map u (filter held rest)) ≡ u c ∷ map u (filter held rest) = in_front ctx position n given c held rest behind in
            let x_held : held' x ≡ true = cond-true (nat_eq x c) true (held x) same in
            rw (x_held, no_x, front, agree, is) refl
        | inr other ↦
            let here : held' x ≡ held x = cond-false (nat_eq x c) true (held x) other in
            let once'' : filter (λ y. nat_eq y c) rest ≡ c ∷ [] = sym (cond-false (nat_eq x c) (x ∷ filter (λ y. nat_eq y c) rest) (filter (λ y. nat_eq y c) rest) other) ∙ once' in
            let ih : put_message (u c) (map u (filter held rest)) ≡ map u (filter held' rest) = put_among f ctx position n given held c (end_of n x) e none cut once'' in
            let below : x < c = among f n (end_of n x) e x c more cut once'' in
            let not_before : is_tree_before (u c) (u x) ≡ false = ups_order ctx position n given c x ∙ le-ltb c x (omega arith) in
            elim (cases_Bool (held x)) [
              | inl y ↦ rw (here, y, not_before) (ap (λ xs. u x ∷ xs) ih)
              | inr n' ↦ rw (here, n') ih
            ]
      ])
]
  where
    empty : [] ≡ c ∷ [] → ⊥
    empty q = cc

    later : (f n x e b : ℕ) → b < x → e ≤ n → All (λ y. b < y) (children_from f n x e)
    later zero n x e b less cut = All-nil (λ y. b < y)
    later (suc f) n x e b less cut = elim (cases_Bool (nat_lt x e)) [
      | inl t ↦
          let here : x < e = ltb-true x e t in
          let more : x < end_of n x = end_behind n x (omega arith) in
          rw t (All-cons (λ y. b < y) x (children_from f n (end_of n x) e) less (later f n (end_of n x) e b (omega arith) cut))
      | inr no_more ↦ rw no_more (All-nil (λ y. b < y))
    ]

    in_front : (ctx : List Level) (position n : ℕ) (given : Given) (c : ℕ) (held : ℕ → Bool) (xs : List ℕ) → All (λ y. c < y) xs
        → put_message (up_of ctx position n given c) (map (up_of ctx position n given) (filter held xs)) ≡ up_of ctx position n given c ∷ map (up_of ctx position n given) (filter held xs)
    in_front ctx position n given c held [] h = refl
    in_front ctx position n given c held (y ∷ xs) h =
        let above : c < y = All-head (λ z. c < z) y xs h in
        let rest = in_front ctx position n given c held xs (All-tail (λ z. c < z) y xs h) in
        elim (cases_Bool (held y)) [
          | inl t ↦
              let before : is_tree_before (up_of ctx position n given c) (up_of ctx position n given y) ≡ true = ups_order ctx position n given c y ∙ lt-ltb c y above in
              rw (t, before) refl
          | inr n' ↦ rw n' rest
        ]

    among : (f n x e b c : ℕ) → b < x → e ≤ n → filter (λ y. nat_eq y c) (children_from f n x e) ≡ c ∷ [] → b < c
    among f n x e b c less cut once = found (children_from f n x e) b c (later f n x e b less cut) once
      where
        found : (xs : List ℕ) (b c : ℕ) → All (λ y. b < y) xs → filter (λ y. nat_eq y c) xs ≡ c ∷ [] → b < c
        found [] b c h q = absurd (let none : [] ≡ c ∷ [] = q in cc)
        found (y ∷ xs) b c h q = elim (cases_Bool (nat_eq y c)) [
          | inl t ↦ let e : y ≡ c = eqb-true y c t in let l : b < y = All-head (λ z. b < z) y xs h in omega arith
          | inr n' ↦ found xs b c (All-tail (λ z. b < z) y xs h) (sym (cond-false (nat_eq y c) (y ∷ filter (λ z. nat_eq z c) xs) (filter (λ z. nat_eq z c) xs) n') ∙ q)
        ]

-- the members of a collective once a message has come up to the parent of its sender
pub record CameUp (ctx : List Level) (position n : ℕ) (rank : ℕ → ℕ) (given : Given) (who : ℕ → Bool) (stage : ℕ → Stage) (trees : ℕ → List TreeMsg) (bag : List Parcel) (p : Parcel) : Type 0 where
  pub sender_some : 0 < p.message.member
  pub sender_within : p.message.member < n
  pub is : p ≡ record { to = rank (parent_of p.message.member); message = up_of ctx position n given p.message.member }
  pub was : stage p.message.member ≡ Rising
  pub fits : StagesFit n who (came_up stage p.message.member)
  pub others_wait : (k : ℕ) → k < n → k ≢ parent_of p.message.member → Waits n who (came_up stage p.message.member) k
  pub apart : is_apart (came_up stage p.message.member (parent_of p.message.member)) ≡ true
  pub messages : MessagesAre ctx position n rank given (came_up stage p.message.member) (with_tree (parent_of p.message.member) (put_message p.message (trees (parent_of p.message.member))) trees) bag
  pub same_done : (k : ℕ) → is_done (came_up stage p.message.member k) ≡ is_done (stage k)

pub not_top : (s : Stage) → (is_apart s || is_done s) ≡ true → (is_rising s ≡ false) × (is_falling s ≡ false)
not_top Apart e = (refl, refl)
not_top Done e = (refl, refl)
not_top Rising e = absurd (false≢true e)
not_top Held e = absurd (false≢true e)
not_top Passed e = absurd (false≢true e)
not_top Falling e = absurd (false≢true e)

came_fit : (n : ℕ) (stage : ℕ → Stage) (c : ℕ) → Fit n stage → stage c ≡ Rising → c < n → 0 < c → Fit n (came_up stage c)
came_fit n stage c fit was inside some_c = λ k some within.
    let less : parent_of k < k = parent_less k some in
    elim (cases_eq k c) [
      | inl e ↦
          let here : came_up stage c k ≡ Held = ap (came_up stage c) e ∙ came_own stage c in
          let there : came_up stage c (parent_of k) ≡ stage (parent_of c) = came_other stage c (parent_of k) (λ h. absurd (omega arith)) ∙ ap (λ x. stage (parent_of x)) e in
          let apart : stage (parent_of c) ≡ Apart = above_rising (stage (parent_of c)) (stage c) (fit c some_c inside) (ap is_rising was) in
          rw (there, here, apart) refl
      | inr other ↦
          let here : came_up stage c k ≡ stage k = came_other stage c k other in
          elim (cases_eq (parent_of k) c) [
            | inl e ↦
                let there : came_up stage c (parent_of k) ≡ Held = ap (came_up stage c) e ∙ came_own stage c in
                let old : may_be_below Rising (stage k) ≡ true = ap (λ x. may_be_below x (stage k)) (sym (ap stage e ∙ was)) ∙ fit k some within in
                rw (there, here) old
            | inr differs ↦
                let there : came_up stage c (parent_of k) ≡ stage (parent_of k) = came_other stage c (parent_of k) differs in
                rw (there, here) (fit k some within)
          ]
    ]

came_agree : (n : ℕ) (stage : ℕ → Stage) (c k : ℕ) → k < n → n ≤ 65536 → k ≢ parent_of c → All (λ x. is_held (stage x) ≡ is_held (came_up stage c x)) (children n k)
came_agree n stage c k within room other =
    All-weaker (IsChild n k) (λ x. is_held (stage x) ≡ is_held (came_up stage c x))
    (λ x is. ap is_held (sym (came_other stage c x (λ e. other (sym is.parent ∙ ap parent_of e))))) (children n k) (children_are n k within room)

came_test : (test : Stage → Bool) (stage : ℕ → Stage) (c k : ℕ) → test Held ≡ test (stage c) → test (came_up stage c k) ≡ test (stage k)
came_test test stage c k e = elim (cases_eq k c) [
  | inl h ↦ ap (λ x. test (came_up stage c x)) h ∙ (ap test (came_own stage c) ∙ (e ∙ ap (λ x. test (stage x)) (sym h)))
  | inr other ↦ ap test (came_other stage c k other)
]

pub comes_up : (ctx : List Level) (position n : ℕ) (rank : ℕ → ℕ) (given : Given) (who : ℕ → Bool) (stage : ℕ → Stage) (trees : ℕ → List TreeMsg) (before : List Parcel) (p : Parcel) (after : List Parcel)
    → n ≤ 65536 → StagesFit n who stage → ((k : ℕ) → k < n → Waits n who stage k) → MessagesAre ctx position n rank given stage trees (before ++ p ∷ after)
    → is_up_of ctx position p.message ≡ true → ((k : ℕ) → k < n → IsTreeOrdered (trees k))
    → CameUp ctx position n rank given who stage trees (before ++ after) p
comes_up ctx position n rank given who stage trees before p after room fits waits m up ordered =
    let c : ℕ = p.message.member in
    let from : goes_up_from ctx position c p ≡ true = and_from (is_up_of ctx position p.message) (nat_eq c c) up (eq-eqb c c refl) in
    let inside : c < n = elim (cases_lt c n) [
      | inl h ↦ h
      | inr past ↦ absurd (taken_none (goes_up_from ctx position c) before p after from (m.no_others c past))
    ] in
    let one : Parcel = record { to = rank (parent_of c); message = up_of ctx position n given c } in
    let rises : is_rising (stage c) ≡ true = elim (cases_Bool (is_rising (stage c))) [
      | inl t ↦ t
      | inr f ↦ absurd (taken_none (goes_up_from ctx position c) before p after from (m.rising c inside ∙ cond-false (is_rising (stage c)) (one ∷ []) [] f))
    ] in
    let taken = taken_one (goes_up_from ctx position c) before p after one from (m.rising c inside ∙ cond-true (is_rising (stage c)) (one ∷ []) [] rises) in
    let was : stage c ≡ Rising = is_it_rising (stage c) rises in
    let some : 0 < c = elim (cases_lt 0 c) [
      | inl h ↦ h
      | inr none ↦ let e : c ≡ 0 = omega arith in absurd (true≢false (sym rises ∙ (ap (λ x. is_rising (stage x)) e ∙ (not_top (stage 0) fits.top).0)))
    ] in
    let q : ℕ = parent_of c in
    let less : q < c = parent_less c some in
    let parent_apart : stage q ≡ Apart = above_rising (stage q) (stage c) (fits.fit c some inside) rises in
    let apart_now : came_up stage c q ≡ Apart = came_other stage c q (λ h. absurd (omega arith)) ∙ parent_apart in
    let tree : List TreeMsg = put_message p.message (trees q) in
    let new : ℕ → List TreeMsg = with_tree q tree trees in
    let message_is : p.message ≡ up_of ctx position n given c = ap (λ x. x.message) taken.0 in
    let not_held : is_held (stage c) ≡ false = ap is_held was in
    let not_down : (r : ℕ) → goes_down_to ctx position r p ≡ false =
    λ r. and_left (is_down_of ctx position p.message) (nat_eq p.to r) (up_not_down ctx position p.message (and_parts (is_same_ctx p.message.ctx ctx && nat_eq p.message.position position) (is_up p.message.direction) up).1) in
    record {
      sender_some = some;
      sender_within = inside;
      is = taken.0;
      was = was;
      fits = record {
        fit = came_fit n stage c fits.fit was inside some;
        top = ap (λ s. is_apart s || is_done s) (came_other stage c 0 (λ e. absurd (omega arith))) ∙ fits.top;
        joined = λ k within not_apart. fits.joined k within (sym (came_test is_apart stage c k (ap is_apart (sym was))) ∙ not_apart);
      };
      others_wait = λ k within other apart has.
          sym (all_same (λ x. is_held (stage x)) (λ x. is_held (came_up stage c x)) (children n k) (came_agree n stage c k within room other))
          ∙ waits k within (sym (came_test is_apart stage c k (ap is_apart (sym was))) ∙ apart) has;
      apart = ap is_apart apart_now;
      same_done = λ k. came_test is_done stage c k (ap is_done (sym was));
      messages = record {
        held = λ k within. elim (cases_eq k q) [
          | inr other ↦
              ap (filter (is_up_of ctx position)) (with_tree-other q tree trees k other)
              ∙ (m.held k within ∙ ap (map (up_of ctx position n given)) (filter_same (λ x. is_held (stage x)) (λ x. is_held (came_up stage c x)) (children n k) (came_agree n stage c k within room other)))
          | inl e ↦
              let P : ℕ → Type 0 = λ x. filter (is_up_of ctx position) (new x) ≡ map (up_of ctx position n given) (filter (λ y. is_held (came_up stage c y)) (children n x)) in
              let q_within : q < n = omega arith in
              let agree : All (λ y. cond (nat_eq y c) true (is_held (stage y)) ≡ is_held (came_up stage c y)) (children n q) =
              λ i d within'. held_now stage c (get_or (children n q) i d) in
              subst P (sym e)
              (ap (filter (is_up_of ctx position)) (with_tree-same q tree trees)
              ∙ (put_filter (is_up_of ctx position) p.message (trees q) up (ordered q q_within)
              ∙ (ap (put_message p.message) (m.held q q_within)
              ∙ (ap (λ x. put_message x (map (up_of ctx position n given) (filter (λ y. is_held (stage y)) (children n q)))) message_is
              ∙ (put_among n ctx position n given (λ y. is_held (stage y)) c (q + 1) (end_of n q) not_held (end_within n q) (child_once n c some inside room)
              ∙ ap (map (up_of ctx position n given)) (filter_same (λ y. cond (nat_eq y c) true (is_held (stage y))) (λ y. is_held (came_up stage c y)) (children n q) agree))))))
        ];
        rising = λ k within. elim (cases_eq k c) [
          | inl e ↦
              let P : ℕ → Type 0 = λ x. filter (goes_up_from ctx position x) (before ++ after) ≡ cond (is_rising (came_up stage c x)) (let y : Parcel = record { to = rank (parent_of x); message = up_of ctx position n given x } in y ∷ []) [] in
              subst P (sym e) (taken.1 ∙ sym (cond-false (is_rising (came_up stage c c)) (one ∷ []) [] (ap is_rising (came_own stage c))))
          | inr other ↦
              let fails : goes_up_from ctx position k p ≡ false = and_right (is_up_of ctx position p.message) (nat_eq c k) (ne_eqb c k (λ h. other (sym h))) in
              taken_other (goes_up_from ctx position k) before p after fails ∙ (m.rising k within
              ∙ ap (λ b. cond b (let y : Parcel = record { to = rank (parent_of k); message = up_of ctx position n given k } in y ∷ []) []) (ap is_rising (sym (came_other stage c k other))))
        ];
        no_others = λ k past. taken_other (goes_up_from ctx position k) before p after (and_right (is_up_of ctx position p.message) (nat_eq c k) (ne_eqb c k (λ h. absurd (omega arith)))) ∙ m.no_others k past;
        falling = λ k within. taken_other (goes_down_to ctx position (rank k)) before p after (not_down (rank k)) ∙ (m.falling k within
            ∙ ap (λ b. cond b (let y : Parcel = record { to = rank k; message = down_of ctx position n given (parent_of k) } in y ∷ []) []) (sym (came_test is_falling stage c k (ap is_falling (sym was)))));
        no_strays = λ r none. taken_other (goes_down_to ctx position r) before p after (not_down r) ∙ m.no_strays r none;
      };
    }
  where
    held_now : (stage : ℕ → Stage) (c y : ℕ) → cond (nat_eq y c) true (is_held (stage y)) ≡ is_held (came_up stage c y)
    held_now stage c y = elim (cases_Bool (nat_eq y c)) [
      | inl t ↦ rw t refl
      | inr f ↦ rw f refl
    ]
