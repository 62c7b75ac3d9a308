-- What a member does that looks at what it holds, over the stages of all members.
use Rattle.std.proofs.Common.{ℕ, ◌≡◌, ◌≢◌, ◌-◌, ◌<◌, ◌≤◌, inl, inr, List, [], ◌∷◌, ◌++◌, map, cond, Bool, true, false, Some, refl, sym, subst, ap, ◌∙◌, arith, append-nil}
use Rattle.std.specs.Prelude.{nat_eq, is_some, not, filter}
use Rattle.std.specs.List.{list_all}
use Rattle.std.proofs.lemmas.Bool.{cases_Bool, cases_eq, and_parts, eqb-true, eqb-false, eq-eqb, ne_eqb, true≢false, false≢true, cond-true, cond-false, not-true}
use Rattle.mpi_types.specs.declared.argument.Arg.{Arg}
use Rattle.mpi_types.specs.declared.argument.Joined.{Joined}
use Rattle.mpi_types.specs.declared.argument.TreeMsg.{TreeMsg}
use Rattle.mpi_types.specs.declared.context.Level.{Level}
use Rattle.collectives.specs.declared.sends.TreeSend.{TreeSend}
use Rattle.collectives.specs.Tree.{end_of, parent_of, children}
use Rattle.collectives.specs.Held.{are_from, here_of, is_up_of, others_of}
use Rattle.collectives.specs.Sends.{down_send, down_sends, up_send}
use Rattle.collectives.specs.Sweeps.{Went, looked, completed, closed, handed_up, quiet, with_list}
use Rattle.collectives.specs.Slices.{Given, slice, subtree_of, all_of, HaveJoined, AreNumbered, up_of}
use Rattle.collectives.specs.Stages.{Stage, is_apart, is_rising, is_held, is_falling, is_done, may_be_below, is_child, moved}
use Rattle.collectives.specs.Stages.Stage.{Apart, Rising, Held, Passed, Falling, Done}
use Rattle.collectives.specs.System.{Parcel, StagesFit, Waits, MessagesAre, goes_down_to}
use Rattle.collectives.proofs.TreeLemmas.{end_within}
use Rattle.collectives.proofs.ChainLemmas.{HoldsOf, holds_whole, holds_part, subtree_whole}
use Rattle.collectives.proofs.StageLemmas.{moved_own, moved_child, moved_other}
use Rattle.collectives.proofs.GoLemmas.{child_holds, AreNext, GoesOn, go_fit, go_wait, go_held}
use Rattle.collectives.proofs.BagLemmas.{parcel_down, bag_rises, bag_falls}

-- trees of members, with another at one
abbrev pub with_tree : ℕ → List TreeMsg → (ℕ → List TreeMsg) → ℕ → List TreeMsg
with_tree i tree trees k = cond (nat_eq k i) tree (trees k)

pub with_tree-same : (i : ℕ) (tree : List TreeMsg) (trees : ℕ → List TreeMsg) → with_tree i tree trees i ≡ tree
with_tree-same i tree trees = cond-true (nat_eq i i) tree (trees i) (eq-eqb i i refl)

pub with_tree-other : (i : ℕ) (tree : List TreeMsg) (trees : ℕ → List TreeMsg) (k : ℕ) → k ≢ i → with_tree i tree trees k ≡ trees k
with_tree-other i tree trees k other = cond-false (nat_eq k i) tree (trees k) (ne_eqb k i other)

-- what is sent, on its way to ranks
abbrev pub parcels : (ℕ → ℕ) → List TreeSend → List Parcel
parcels rank sends = map (λ x. record { to = rank x.to; message = x.message }) sends

-- stages by tests
pub is_it_apart : (s : Stage) → is_apart s ≡ true → s ≡ Apart
is_it_apart Apart e = refl
is_it_apart Rising e = absurd (false≢true e)
is_it_apart Held e = absurd (false≢true e)
is_it_apart Passed e = absurd (false≢true e)
is_it_apart Falling e = absurd (false≢true e)
is_it_apart Done e = absurd (false≢true e)

pub is_it_held : (s : Stage) → is_held s ≡ true → s ≡ Held
is_it_held Held e = refl
is_it_held Apart e = absurd (false≢true e)
is_it_held Rising e = absurd (false≢true e)
is_it_held Passed e = absurd (false≢true e)
is_it_held Falling e = absurd (false≢true e)
is_it_held Done e = absurd (false≢true e)

above_apart : (p : Stage) → may_be_below p Apart ≡ true → p ≡ Apart
above_apart Apart e = refl
above_apart Rising e = absurd (false≢true e)
above_apart Held e = absurd (false≢true e)
above_apart Passed e = absurd (false≢true e)
above_apart Falling e = absurd (false≢true e)
above_apart Done e = absurd (false≢true e)

pub next_up : AreNext Rising Passed
next_up = record { own_not_held = refl; below_not_held = refl; own_not_apart = refl; below_not_apart = refl; between = refl; under = λ c. refl }

pub next_down : AreNext Done Falling
next_down = record { own_not_held = refl; below_not_held = refl; own_not_apart = refl; below_not_apart = refl; between = refl; under = λ c. refl }

-- the members of a collective before one of them looks
pub record Looks (ctx : List Level) (position n : ℕ) (rank : ℕ → ℕ) (given : Given) (who : ℕ → Bool) (stage : ℕ → Stage) (trees : ℕ → List TreeMsg) (bag : List Parcel) (j : Joined) : Type 0 where
  pub ctx_is : j.ctx ≡ ctx
  pub position_is : j.position ≡ position
  pub room : n ≤ 65536
  pub within : j.arg.member < n
  pub distinct : (x y : ℕ) → x < n → y < n → rank x ≡ rank y → x ≡ y
  pub own : given j.arg.member ≡ Some j.arg
  pub numbered : AreNumbered given
  pub all_give : (i : ℕ) → i < n → is_some (given i) ≡ true
  pub has_joined : who j.arg.member ≡ true
  pub apart : is_apart (stage j.arg.member) ≡ true
  pub fits : StagesFit n who stage
  pub others_wait : (k : ℕ) → k < n → k ≢ j.arg.member → Waits n who stage k
  pub messages : MessagesAre ctx position n rank given stage trees bag

-- the members after it
pub record Looked (ctx : List Level) (position n : ℕ) (rank : ℕ → ℕ) (given : Given) (who : ℕ → Bool) (stage : ℕ → Stage) (trees : ℕ → List TreeMsg) (bag : List Parcel) (j : Joined) (w : Went) : Type 0 where
  pub stage' : ℕ → Stage
  pub fits : StagesFit n who stage'
  pub waits : (k : ℕ) → k < n → Waits n who stage' k
  pub messages : MessagesAre ctx position n rank given stage' (with_tree j.arg.member w.sweep.tree trees) (bag ++ parcels rank w.out.sends)
  pub done : is_done (stage' j.arg.member) ≡ w.out.gathered
  pub others_done : (k : ℕ) → k < n → k ≢ j.arg.member → is_done (stage' k) ≡ is_done (stage k)
  pub not_gathered : w.out.gathered ≡ false → w.sweep.joined ≡ Some j
  pub gathered : w.out.gathered ≡ true → w.sweep.joined ≡ Some (with_list j (all_of n given))

holds_of : (ctx : List Level) (position n : ℕ) (rank : ℕ → ℕ) (given : Given) (who : ℕ → Bool) (stage : ℕ → Stage) (trees : ℕ → List TreeMsg) (bag : List Parcel) (j : Joined)
    → Looks ctx position n rank given who stage trees bag j → HoldsOf n given (λ c. is_held (stage c)) j (trees j.arg.member)
holds_of ctx position n rank given who stage trees bag j l =
    let m : ℕ = j.arg.member in
    let P : List Level → ℕ → Type 0 = λ x y. filter (is_up_of x y) (trees m) ≡ map (up_of x y n given) (filter (λ c. is_held (stage c)) (children n m)) in
    record {
      within = l.within;
      room = l.room;
      own = l.own;
      numbered = l.numbered;
      messages = let h : P ctx position = l.messages.held m l.within in
          let Q : List Level → Type 0 = λ x. P x j.position in
          let R : ℕ → Type 0 = λ y. P ctx y in
          subst Q (sym l.ctx_is) (subst R (sym l.position_is) h);
      whole = λ x inside there k low high. l.all_give k (omega (arith, end_within n x));
    }

goes_on_from : (ctx : List Level) (position n : ℕ) (rank : ℕ → ℕ) (given : Given) (who : ℕ → Bool) (stage : ℕ → Stage) (trees : ℕ → List TreeMsg) (bag : List Parcel) (j : Joined) (own below : Stage)
    → Looks ctx position n rank given who stage trees bag j → list_all (λ c. is_held (stage c)) (children n j.arg.member) ≡ true → AreNext own below
    → (0 < j.arg.member → may_be_below (stage (parent_of j.arg.member)) own ≡ true) → (j.arg.member ≡ 0 → own ≡ Done) → GoesOn n who stage j.arg.member own below
goes_on_from ctx position n rank given who stage trees bag j own below l all next above at_top =
    let m : ℕ = j.arg.member in
    let P : ℕ → Type 0 = λ x. list_all (λ c. is_held (stage c)) (children n x) ≡ true in
    record {
      fits = l.fits;
      room = l.room;
      within = l.within;
      next = next;
      above = above;
      at_top = at_top;
      not_held = ap is_held (is_it_apart (stage m) l.apart);
      has_joined = l.has_joined;
      children_joined = λ k some within from.
          let there : is_held (stage k) ≡ true = child_holds n k (λ c. is_held (stage c)) some within l.room (subst P (sym from) all) in
          ap is_apart (is_it_held (stage k) there);
      ready = λ k some within from c.
          let there : is_held (stage k) ≡ true = child_holds n k (λ c. is_held (stage c)) some within l.room (subst P (sym from) all) in
          ap (λ x. may_be_below x c) (is_it_held (stage k) there);
      others_wait = l.others_wait;
    }

-- once the messages of a collective are taken out, none is left
others_none : (p : TreeMsg → Bool) (tree : List TreeMsg) → filter p (filter (λ m. not (p m)) tree) ≡ []
others_none p [] = refl
others_none p (m ∷ tree) = elim (cases_Bool (p m)) [
  | inl t ↦ rw t (others_none p tree)
  | inr f ↦ rw (f, f) (others_none p tree)
]

-- the children that are held are neither rising nor falling
held_neither : (s : Stage) → is_held s ≡ true → (is_rising s ≡ false) × (is_falling s ≡ false)
held_neither s e = (ap is_rising (is_it_held s e), ap is_falling (is_it_held s e))

pub parcels_down : (ctx : List Level) (position n : ℕ) (rank : ℕ → ℕ) (given : Given) (j : Joined) (list : List Arg) (cs : List ℕ) → j.ctx ≡ ctx → j.position ≡ position → list ≡ all_of n given
    → parcels rank (map (down_send j list) cs) ≡ map (parcel_down ctx position n rank given j.arg.member) cs
parcels_down ctx position n rank given j list [] e f h = refl
parcels_down ctx position n rank given j list (c ∷ cs) e f h =
    let rest : parcels rank (map (down_send j list) cs) ≡ map (parcel_down ctx position n rank given j.arg.member) cs = parcels_down ctx position n rank given j list cs e f h in
    rw rest (rw (e, f, h) refl)

pub look_whole_up : (ctx : List Level) (position n : ℕ) (rank : ℕ → ℕ) (given : Given) (who : ℕ → Bool) (stage : ℕ → Stage) (trees : ℕ → List TreeMsg) (bag : List Parcel) (j : Joined)
    → Looks ctx position n rank given who stage trees bag j → list_all (λ c. is_held (stage c)) (children n j.arg.member) ≡ true → 0 < j.arg.member
    → Looked ctx position n rank given who stage trees bag j (handed_up j (here_of j (trees j.arg.member)) (others_of j.ctx j.position (trees j.arg.member)))
look_whole_up ctx position n rank given who stage trees bag j l all some =
    let m : ℕ = j.arg.member in
    let apart : stage m ≡ Apart = is_it_apart (stage m) l.apart in
    let parent_apart : stage (parent_of m) ≡ Apart =
    above_apart (stage (parent_of m)) (ap (λ x. may_be_below (stage (parent_of m)) x) (sym apart) ∙ l.fits.fit m some l.within) in
    let g : GoesOn n who stage m Rising Passed =
    goes_on_from ctx position n rank given who stage trees bag j Rising Passed l all next_up (λ h. ap (λ x. may_be_below x Rising) parent_apart) (λ e. absurd (omega arith)) in
    let tree : List TreeMsg = others_of j.ctx j.position (trees m) in
    let new : ℕ → List TreeMsg = with_tree m tree trees in
    let here : filter (is_up_of ctx position) (new m) ≡ [] =
    ap (filter (is_up_of ctx position)) (with_tree-same m tree trees) ∙ (rw (l.ctx_is, l.position_is) (others_none (is_up_of ctx position) (trees m))) in
    let held = go_held ctx position n given who stage m Rising Passed trees new g (λ k within other. ap (filter (is_up_of ctx position)) (with_tree-other m tree trees k other)) here (λ k within other. l.messages.held k within) in
    let P : ℕ → Type 0 = λ x. list_all (λ c. is_held (stage c)) (children n x) ≡ true in
    let bag_is = bag_rises ctx position n rank given stage m trees new bag l.within l.messages (ap is_rising apart) (ap is_falling apart)
    (λ c c_some c_within from. held_neither (stage c) (child_holds n c (λ x. is_held (stage x)) c_some c_within l.room (subst P (sym from) all))) held in
    let sent : up_send j (here_of j (trees m)) ≡ record { to = parent_of m; message = up_of ctx position n given m } =
    rw (holds_whole n given (λ c. is_held (stage c)) j (trees m) (holds_of ctx position n rank given who stage trees bag j l) all, l.ctx_is, l.position_is) refl in
    let B : List Parcel → Type 0 = λ xs. MessagesAre ctx position n rank given (moved stage m Rising Passed) new (bag ++ xs) in
    record {
      stage' = moved stage m Rising Passed;
      fits = go_fit n who stage m Rising Passed g;
      waits = go_wait n who stage m Rising Passed g;
      messages = subst B (ap (λ (x : TreeSend). parcels rank (x ∷ [])) (sym sent)) bag_is;
      done = ap is_done (moved_own stage m Rising Passed);
      others_done = λ k within other. moved_done stage m k n other within (λ c c_some c_within from. held_not_done (stage c) (child_holds n c (λ x. is_held (stage x)) c_some c_within l.room (subst P (sym from) all)));
      not_gathered = λ e. refl;
      gathered = λ e. absurd (false≢true e);
    }
  where
    held_not_done : (s : Stage) → is_held s ≡ true → is_done s ≡ false
    held_not_done s e = ap is_done (is_it_held s e)

    moved_done : (stage : ℕ → Stage) (i k n : ℕ) → k ≢ i → k < n → ((c : ℕ) → 0 < c → c < n → parent_of c ≡ i → is_done (stage c) ≡ false) → is_done (moved stage i Rising Passed k) ≡ is_done (stage k)
    moved_done stage i k n other inside below = elim (cases_Bool (is_child i k)) [
      | inl child ↦
          let parts = and_parts (not (nat_eq k 0)) (nat_eq (parent_of k) i) child in
          let some : 0 < k = let h : k ≢ 0 = eqb-false k 0 (not-true (nat_eq k 0) parts.0) in omega arith in
          let from : parent_of k ≡ i = eqb-true (parent_of k) i parts.1 in
          ap is_done (moved_child stage i k Rising Passed some from) ∙ sym (below k some inside from)
      | inr none ↦ ap is_done (moved_other stage i k Rising Passed other none)
    ]

look_whole_down : (ctx : List Level) (position n : ℕ) (rank : ℕ → ℕ) (given : Given) (who : ℕ → Bool) (stage : ℕ → Stage) (trees : ℕ → List TreeMsg) (bag : List Parcel) (j : Joined)
    → Looks ctx position n rank given who stage trees bag j → list_all (λ c. is_held (stage c)) (children n j.arg.member) ≡ true → j.arg.member ≡ 0
    → Looked ctx position n rank given who stage trees bag j (closed n j (here_of j (trees j.arg.member)) (others_of j.ctx j.position (trees j.arg.member)))
look_whole_down ctx position n rank given who stage trees bag j l all first =
    let m : ℕ = j.arg.member in
    let apart : stage m ≡ Apart = is_it_apart (stage m) l.apart in
    let g : GoesOn n who stage m Done Falling =
    goes_on_from ctx position n rank given who stage trees bag j Done Falling l all next_down (λ h. absurd (omega arith)) (λ e. refl) in
    let tree : List TreeMsg = others_of j.ctx j.position (trees m) in
    let new : ℕ → List TreeMsg = with_tree m tree trees in
    let here : filter (is_up_of ctx position) (new m) ≡ [] =
    ap (filter (is_up_of ctx position)) (with_tree-same m tree trees) ∙ (rw (l.ctx_is, l.position_is) (others_none (is_up_of ctx position) (trees m))) in
    let held = go_held ctx position n given who stage m Done Falling trees new g (λ k within other. ap (filter (is_up_of ctx position)) (with_tree-other m tree trees k other)) here (λ k within other. l.messages.held k within) in
    let P : ℕ → Type 0 = λ x. list_all (λ c. is_held (stage c)) (children n x) ≡ true in
    let none_falls : filter (goes_down_to ctx position (rank m)) bag ≡ [] = l.messages.falling m l.within ∙ cond-false (is_falling (stage m)) _ [] (ap is_falling apart) in
    let bag_is = bag_falls ctx position n rank given stage m new bag l.within l.room l.distinct l.messages.rising l.messages.no_others (λ k within other. l.messages.falling k within) none_falls l.messages.no_strays
    (ap is_rising apart) (λ c c_some c_within from. held_neither (stage c) (child_holds n c (λ x. is_held (stage x)) c_some c_within l.room (subst P (sym from) all))) held in
    let list_is : here_of j (trees m) ≡ all_of n given =
    holds_whole n given (λ c. is_held (stage c)) j (trees m) (holds_of ctx position n rank given who stage trees bag j l) all ∙ (ap (subtree_of n given) first ∙ ap (slice given 0) (let e : n - 0 ≡ n = omega arith in e)) in
    let sent : parcels rank (down_sends n j (here_of j (trees m))) ≡ map (parcel_down ctx position n rank given m) (children n m) =
    parcels_down ctx position n rank given j (here_of j (trees m)) (children n m) l.ctx_is l.position_is list_is in
    let B : List Parcel → Type 0 = λ xs. MessagesAre ctx position n rank given (moved stage m Done Falling) new (bag ++ xs) in
    record {
      stage' = moved stage m Done Falling;
      fits = go_fit n who stage m Done Falling g;
      waits = go_wait n who stage m Done Falling g;
      messages = subst B (sym sent) bag_is;
      done = ap is_done (moved_own stage m Done Falling);
      others_done = λ k within other. below_done stage m k n other within (λ c c_some c_within from. held_not_done (stage c) (child_holds n c (λ x. is_held (stage x)) c_some c_within l.room (subst P (sym from) all)));
      not_gathered = λ e. absurd (true≢false e);
      gathered = λ e. ap (λ xs. Some (with_list j xs)) list_is;
    }
  where
    held_not_done : (s : Stage) → is_held s ≡ true → is_done s ≡ false
    held_not_done s e = ap is_done (is_it_held s e)

    below_done : (stage : ℕ → Stage) (i k n : ℕ) → k ≢ i → k < n → ((c : ℕ) → 0 < c → c < n → parent_of c ≡ i → is_done (stage c) ≡ false) → is_done (moved stage i Done Falling k) ≡ is_done (stage k)
    below_done stage i k n other inside below = elim (cases_Bool (is_child i k)) [
      | inl child ↦
          let parts = and_parts (not (nat_eq k 0)) (nat_eq (parent_of k) i) child in
          let some : 0 < k = let h : k ≢ 0 = eqb-false k 0 (not-true (nat_eq k 0) parts.0) in omega arith in
          let from : parent_of k ≡ i = eqb-true (parent_of k) i parts.1 in
          ap is_done (moved_child stage i k Done Falling some from) ∙ sym (below k some inside from)
      | inr none ↦ ap is_done (moved_other stage i k Done Falling other none)
    ]

look_part : (ctx : List Level) (position n : ℕ) (rank : ℕ → ℕ) (given : Given) (who : ℕ → Bool) (stage : ℕ → Stage) (trees : ℕ → List TreeMsg) (bag : List Parcel) (j : Joined)
    → Looks ctx position n rank given who stage trees bag j → list_all (λ c. is_held (stage c)) (children n j.arg.member) ≡ false
    → Looked ctx position n rank given who stage trees bag j (quiet (Some j) (trees j.arg.member))
look_part ctx position n rank given who stage trees bag j l some =
    let m : ℕ = j.arg.member in
    let new : ℕ → List TreeMsg = with_tree m (trees m) trees in
    let same : (k : ℕ) → new k ≡ trees k = λ k. elim (cases_eq k m) [
      | inl e ↦ ap new e ∙ (with_tree-same m (trees m) trees ∙ ap trees (sym e))
      | inr other ↦ with_tree-other m (trees m) trees k other
    ] in
    let bag_is : bag ++ [] ≡ bag = append-nil bag in
    let B : List Parcel → Type 0 = λ xs. MessagesAre ctx position n rank given stage new xs in
    record {
      stage' = stage;
      fits = l.fits;
      waits = λ k within. elim (cases_eq k m) [
        | inl e ↦ λ a b. ap (λ x. list_all (λ c. is_held (stage c)) (children n x)) e ∙ some
        | inr other ↦ l.others_wait k within other
      ];
      messages = subst B (sym bag_is) (record {
        held = λ k within. ap (filter (is_up_of ctx position)) (same k) ∙ l.messages.held k within;
        rising = l.messages.rising;
        no_others = l.messages.no_others;
        falling = l.messages.falling;
        no_strays = l.messages.no_strays;
      });
      done = ap is_done (is_it_apart (stage m) l.apart);
      others_done = λ k within other. refl;
      not_gathered = λ e. refl;
      gathered = λ e. absurd (false≢true e);
    }

-- what a member does that looks keeps all
pub look : (ctx : List Level) (position n : ℕ) (rank : ℕ → ℕ) (given : Given) (who : ℕ → Bool) (stage : ℕ → Stage) (trees : ℕ → List TreeMsg) (bag : List Parcel) (j : Joined)
    → Looks ctx position n rank given who stage trees bag j → Looked ctx position n rank given who stage trees bag j (looked n j (trees j.arg.member))
look ctx position n rank given who stage trees bag j l =
    let m : ℕ = j.arg.member in
    let tree : List TreeMsg = trees m in
    let h = holds_of ctx position n rank given who stage trees bag j l in
    let G : Went → Type 0 = Looked ctx position n rank given who stage trees bag j in
    elim (cases_Bool (list_all (λ c. is_held (stage c)) (children n m))) [
      | inr some ↦
          let test : are_from m (end_of n m) (here_of j tree) ≡ false = holds_part n given (λ c. is_held (stage c)) j tree h some in
          subst G (sym (cond-false (are_from m (end_of n m) (here_of j tree)) (completed n j tree) (quiet (Some j) tree) test))
          (look_part ctx position n rank given who stage trees bag j l some)
      | inl all ↦
          let whole : here_of j tree ≡ subtree_of n given m = holds_whole n given (λ c. is_held (stage c)) j tree h all in
          let joined : HaveJoined given m (end_of n m) = λ k low high. l.all_give k (omega (arith, end_within n m)) in
          let test : are_from m (end_of n m) (here_of j tree) ≡ true = ap (are_from m (end_of n m)) whole ∙ subtree_whole n given m l.within l.numbered joined in
          subst G (sym (cond-true (are_from m (end_of n m) (here_of j tree)) (completed n j tree) (quiet (Some j) tree) test))
          (elim (cases_Bool (nat_eq m 0)) [
            | inl e ↦ subst G (sym (cond-true (nat_eq m 0) (closed n j (here_of j tree) (others_of j.ctx j.position tree)) (handed_up j (here_of j tree) (others_of j.ctx j.position tree)) e))
                (look_whole_down ctx position n rank given who stage trees bag j l all (eqb-true m 0 e))
            | inr f ↦ subst G (sym (cond-false (nat_eq m 0) (closed n j (here_of j tree) (others_of j.ctx j.position tree)) (handed_up j (here_of j tree) (others_of j.ctx j.position tree)) f))
                (look_whole_up ctx position n rank given who stage trees bag j l all (let other : m ≢ 0 = eqb-false m 0 f in omega arith))
          ])
    ]
