-- What the arrival of the list changes, over the stages of all members.
use Rattle.std.proofs.Common.{ℕ, zero, suc, ◌≡◌, ◌≢◌, ◌+◌, ◌<◌, ◌≤◌, ◌⊎◌, inl, inr, List, [], ◌∷◌, ◌++◌, map, Bool, true, false, ◌&&◌, refl, sym, subst, ap, ◌∙◌, arith}
use Rattle.std.specs.Prelude.{nat_eq, is_some, not, All, filter}
use Rattle.std.proofs.lemmas.Bool.{cases_Bool, cases_lt, cases_eq, and_parts, and_from, and_left, and_right, eqb-true, eqb-false, eq-eqb, ne_eqb, true≢false, false≢true, cond-true, cond-false, not-true}
use Rattle.std.proofs.lemmas.List.Elements.{All-weaker}
use Rattle.mpi_types.specs.declared.argument.Joined.{Joined}
use Rattle.mpi_types.specs.declared.argument.TreeMsg.{TreeMsg}
use Rattle.mpi_types.specs.declared.context.Level.{Level}
use Rattle.mpi_types.specs.Accepts.{is_same_ctx}
use Rattle.collectives.specs.Tree.{parent_of, children}
use Rattle.collectives.specs.Held.{are_from, is_up, is_up_of}
use Rattle.collectives.specs.Sends.{down_sends}
use Rattle.collectives.specs.Sweeps.{closed}
use Rattle.collectives.specs.Slices.{Given, all_of, AreNumbered, up_of, down_of}
use Rattle.collectives.specs.Stages.{Stage, is_apart, is_rising, is_held, is_falling, is_done, is_passed, may_be_below, is_child, moved}
use Rattle.collectives.specs.Stages.Stage.{Apart, Rising, Held, Passed, Falling, Done}
use Rattle.collectives.specs.System.{Parcel, StagesFit, Waits, MessagesAre, is_down_of, goes_up_from, goes_down_to}
use Rattle.collectives.proofs.TreeLemmas.{IsChild, children_are, end_within}
use Rattle.collectives.proofs.ChainLemmas.{following_slice}
use Rattle.collectives.proofs.StageLemmas.{moved_own, moved_child, moved_other}
use Rattle.collectives.proofs.GoLemmas.{filter_none, GoesOn, go_fit, go_wait, go_held}
use Rattle.collectives.proofs.BagLemmas.{parcel_down, bag_falls, down_not_up, taken_one, taken_other, taken_none}
use Rattle.collectives.proofs.LookLemmas.{Looked, with_tree, with_tree-same, with_tree-other, parcels, parcels_down, next_down}
use Rattle.collectives.proofs.ComeLemmas.{is_it_falling, not_top}

-- the member whose rank it is, if there is one
pub member_at : (n r : ℕ) (rank : ℕ → ℕ) → ((i : ℕ) × ((i < n) × (rank i ≡ r))) ⊎ ((i : ℕ) → i < n → rank i ≢ r)
member_at zero r rank = inr (λ i h. absurd (omega arith))
member_at (suc n) r rank = elim (cases_eq (rank n) r) [
  | inl e ↦ inl (n, (omega arith, e))
  | inr other ↦ elim (member_at n r rank) [
    | inl found ↦ inl (found.0, (let h : found.0 < n = found.1.0 in omega arith, found.1.1))
    | inr none ↦ inr (λ i h. elim (cases_eq i n) [
      | inl e ↦ λ q. other (ap rank (sym e) ∙ q)
      | inr differs ↦ none i (omega arith)
    ])
  ]
]

above_falling : (p : Stage) → may_be_below p Falling ≡ true → p ≡ Done
above_falling Done e = refl
above_falling Apart e = absurd (false≢true e)
above_falling Rising e = absurd (false≢true e)
above_falling Held e = absurd (false≢true e)
above_falling Passed e = absurd (false≢true e)
above_falling Falling e = absurd (false≢true e)

is_it_passed : (s : Stage) → is_passed s ≡ true → s ≡ Passed
is_it_passed Passed e = refl
is_it_passed Apart e = absurd (false≢true e)
is_it_passed Rising e = absurd (false≢true e)
is_it_passed Held e = absurd (false≢true e)
is_it_passed Falling e = absurd (false≢true e)
is_it_passed Done e = absurd (false≢true e)

-- the arguments of all members are whole
pub all_whole : (n : ℕ) (given : Given) → AreNumbered given → ((i : ℕ) → i < n → is_some (given i) ≡ true) → are_from 0 n (all_of n given) ≡ true
all_whole n given own all =
    let e : 0 + n ≡ n = omega arith in
    let follows = following_slice given 0 n own (λ k low high. all k (omega arith)) in
    rw follows (eq-eqb (0 + n) n e)

-- which member the list comes to
pub record FallsTo (ctx : List Level) (position n : ℕ) (rank : ℕ → ℕ) (given : Given) (stage : ℕ → Stage) (before after : List Parcel) (p : Parcel) (i : ℕ) : Type 0 where
  pub within : i < n
  pub some : 0 < i
  pub rank_is : rank i ≡ p.to
  pub was : stage i ≡ Falling
  pub is : p ≡ record { to = rank i; message = down_of ctx position n given (parent_of i) }
  pub none_left : filter (goes_down_to ctx position (rank i)) (before ++ after) ≡ []

pub falls_to : (ctx : List Level) (position n : ℕ) (rank : ℕ → ℕ) (given : Given) (who : ℕ → Bool) (stage : ℕ → Stage) (trees : ℕ → List TreeMsg) (before : List Parcel) (p : Parcel) (after : List Parcel)
    → StagesFit n who stage → MessagesAre ctx position n rank given stage trees (before ++ p ∷ after) → is_down_of ctx position p.message ≡ true
    → (i : ℕ) × FallsTo ctx position n rank given stage before after p i
falls_to ctx position n rank given who stage trees before p after fits m down = elim (member_at n p.to rank) [
  | inr none ↦
      let from : goes_down_to ctx position p.to p ≡ true = and_from (is_down_of ctx position p.message) (nat_eq p.to p.to) down (eq-eqb p.to p.to refl) in
      absurd (taken_none (goes_down_to ctx position p.to) before p after from (m.no_strays p.to none))
  | inl found ↦
      let i : ℕ = found.0 in
      let inside : i < n = found.1.0 in
      let at : p.to ≡ rank i = sym found.1.1 in
      let from : goes_down_to ctx position (rank i) p ≡ true = and_from (is_down_of ctx position p.message) (nat_eq p.to (rank i)) down (eq-eqb p.to (rank i) at) in
      let one : Parcel = record { to = rank i; message = down_of ctx position n given (parent_of i) } in
      let falls : is_falling (stage i) ≡ true = elim (cases_Bool (is_falling (stage i))) [
        | inl t ↦ t
        | inr f ↦ absurd (taken_none (goes_down_to ctx position (rank i)) before p after from (m.falling i inside ∙ cond-false (is_falling (stage i)) (one ∷ []) [] f))
      ] in
      let taken = taken_one (goes_down_to ctx position (rank i)) before p after one from (m.falling i inside ∙ cond-true (is_falling (stage i)) (one ∷ []) [] falls) in (
        i,
        record {
          within = inside;
          some = elim (cases_lt 0 i) [
            | inl h ↦ h
            | inr none ↦ let e : i ≡ 0 = omega arith in absurd (true≢false (sym falls ∙ (ap (λ x. is_falling (stage x)) e ∙ (not_top (stage 0) fits.top).1)))
          ];
          rank_is = sym at;
          was = is_it_falling (stage i) falls;
          is = taken.0;
          none_left = taken.1;
        },
      )
]

-- the member gathers it
pub falls : (ctx : List Level) (position n : ℕ) (rank : ℕ → ℕ) (given : Given) (who : ℕ → Bool) (stage : ℕ → Stage) (trees : ℕ → List TreeMsg) (before : List Parcel) (p : Parcel) (after : List Parcel) (j : Joined)
    → n ≤ 65536 → ((x y : ℕ) → x < n → y < n → rank x ≡ rank y → x ≡ y) → StagesFit n who stage → ((k : ℕ) → k < n → Waits n who stage k)
    → MessagesAre ctx position n rank given stage trees (before ++ p ∷ after) → is_down_of ctx position p.message ≡ true
    → FallsTo ctx position n rank given stage before after p j.arg.member → j.ctx ≡ ctx → j.position ≡ position
    → Looked ctx position n rank given who stage trees (before ++ after) j (closed n j (all_of n given) (trees j.arg.member))
falls ctx position n rank given who stage trees before p after j room distinct fits waits m down f e_ctx e_position =
    let i : ℕ = j.arg.member in
    let tree : List TreeMsg = trees i in
    let new : ℕ → List TreeMsg = with_tree i tree trees in
    let same : (k : ℕ) → new k ≡ trees k = λ k. elim (cases_eq k i) [
      | inl e ↦ ap new e ∙ (with_tree-same i tree trees ∙ ap trees (sym e))
      | inr other ↦ with_tree-other i tree trees k other
    ] in
    let below : (c : ℕ) → 0 < c → c < n → parent_of c ≡ i → stage c ≡ Passed =
    λ c some within from. is_it_passed (stage c) (ap (λ x. may_be_below x (stage c)) (sym (ap stage from ∙ f.was)) ∙ fits.fit c some within) in
    let not_up : is_up p.message.direction ≡ false =
    not-true (is_up p.message.direction) (and_parts (is_same_ctx p.message.ctx ctx && nat_eq p.message.position position) (not (is_up p.message.direction)) down).1 in
    let fails_up : (k : ℕ) → goes_up_from ctx position k p ≡ false =
    λ k. and_left (is_up_of ctx position p.message) (nat_eq p.message.member k) (down_not_up ctx position p.message not_up) in
    let g : GoesOn n who stage i Done Falling = record {
      fits = fits;
      room = room;
      within = f.within;
      next = next_down;
      above = λ some.
          let parent_done : stage (parent_of i) ≡ Done = above_falling (stage (parent_of i)) (ap (λ x. may_be_below (stage (parent_of i)) x) (sym f.was) ∙ fits.fit i some f.within) in
          ap (λ x. may_be_below x Done) parent_done;
      at_top = λ e. refl;
      not_held = ap is_held f.was;
      has_joined = fits.joined i f.within (ap is_apart f.was);
      children_joined = λ k some within from. ap is_apart (below k some within from);
      ready = λ k some within from c. ap (λ x. may_be_below x c) (below k some within from);
      others_wait = λ k within other. waits k within;
    } in
    let none_held : All (λ c. is_held (stage c) ≡ false) (children n i) =
    All-weaker (IsChild n i) (λ c. is_held (stage c) ≡ false) (λ c is. ap is_held (below c (omega (arith, is.behind)) (omega (arith, is.within, end_within n i)) is.parent)) (children n i) (children_are n i f.within room) in
    let here : filter (is_up_of ctx position) (new i) ≡ [] =
    ap (filter (is_up_of ctx position)) (with_tree-same i tree trees) ∙ (m.held i f.within ∙ ap (map (up_of ctx position n given)) (filter_none (λ c. is_held (stage c)) (children n i) none_held)) in
    let held = go_held ctx position n given who stage i Done Falling trees new g (λ k within other. ap (filter (is_up_of ctx position)) (same k)) here (λ k within other. m.held k within) in
    let bag_is = bag_falls ctx position n rank given stage i new (before ++ after) f.within room distinct
    (λ k within. taken_other (goes_up_from ctx position k) before p after (fails_up k) ∙ m.rising k within)
    (λ k past. taken_other (goes_up_from ctx position k) before p after (fails_up k) ∙ m.no_others k past)
    (λ k within other. taken_other (goes_down_to ctx position (rank k)) before p after
    (and_right (is_down_of ctx position p.message) (nat_eq p.to (rank k)) (ne_eqb p.to (rank k) (λ h. other (distinct k i within f.within (sym h ∙ sym f.rank_is))))) ∙ m.falling k within)
    f.none_left
    (λ r none. taken_other (goes_down_to ctx position r) before p after
    (and_right (is_down_of ctx position p.message) (nat_eq p.to r) (ne_eqb p.to r (λ h. none i f.within (f.rank_is ∙ h)))) ∙ m.no_strays r none)
    (ap is_rising f.was) (λ c some within from. (ap is_rising (below c some within from), ap is_falling (below c some within from))) held in
    let sent : parcels rank (down_sends n j (all_of n given)) ≡ map (parcel_down ctx position n rank given i) (children n i) =
    parcels_down ctx position n rank given j (all_of n given) (children n i) e_ctx e_position refl in
    let B : List Parcel → Type 0 = λ xs. MessagesAre ctx position n rank given (moved stage i Done Falling) new ((before ++ after) ++ xs) in
    record {
      stage' = moved stage i Done Falling;
      fits = go_fit n who stage i Done Falling g;
      waits = go_wait n who stage i Done Falling g;
      messages = subst B (sym sent) bag_is;
      done = ap is_done (moved_own stage i Done Falling);
      others_done = λ k within other. below_done stage i k n other within (λ c some c_within from. ap is_done (below c some c_within from));
      not_gathered = λ e. absurd (true≢false e);
      gathered = λ e. refl;
    }
  where
    below_done : (stage : ℕ → Stage) (i k n : ℕ) → k ≢ i → k < n → ((c : ℕ) → 0 < c → c < n → parent_of c ≡ i → is_done (stage c) ≡ false) → is_done (moved stage i Done Falling k) ≡ is_done (stage k)
    below_done stage i k n other inside below = elim (cases_Bool (is_child i k)) [
      | inl child ↦
          let parts = and_parts (not (nat_eq k 0)) (nat_eq (parent_of k) i) child in
          let some : 0 < k = let h : k ≢ 0 = eqb-false k 0 (not-true (nat_eq k 0) parts.0) in omega arith in
          let from : parent_of k ≡ i = eqb-true (parent_of k) i parts.1 in
          ap is_done (moved_child stage i k Done Falling some from) ∙ sym (below k some inside from)
      | inr none ↦ ap is_done (moved_other stage i k Done Falling other none)
    ]
