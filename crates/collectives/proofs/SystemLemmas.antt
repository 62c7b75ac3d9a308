-- A rank that joins keeps all collectives under way.
use Rattle.std.proofs.Common.{ℕ, ◌≡◌, ◌≢◌, ◌<◌, inl, inr, List, [], ◌∷◌, map, Bool, true, false, ◌&&◌, Some, length, refl, sym, subst, ap, ◌∙◌}
use Rattle.std.specs.Prelude.{nat_eq, not, All, filter}
use Rattle.std.proofs.lemmas.Bool.{cases_Bool, cases_eq, and_parts, and_from, and_left, eqb-true, eq-eqb, ne_eqb, true≢false, cond-true, cond-false}
use Rattle.std.proofs.lemmas.List.Elements.{All-nil, All-cons, All-head, All-tail, All-filter}
use Rattle.std.proofs.lemmas.List.Kept.{AllPairs-filter}
use Rattle.mpi_types.specs.declared.argument.Arg.{Arg}
use Rattle.mpi_types.specs.declared.argument.Joined.{Joined}
use Rattle.mpi_types.specs.declared.argument.Sweep.{Sweep}
use Rattle.mpi_types.specs.declared.argument.TreeMsg.{TreeMsg}
use Rattle.mpi_types.specs.declared.context.Level.{Level}
use Rattle.mpi_types.specs.declared.group.Group.{Group}
use Rattle.mpi_types.specs.Accepts.{is_same_ctx}
use Rattle.mpi_types.specs.Order.{is_tree_before, IsTreeOrdered}
use Rattle.mpi_types.proofs.AcceptLemmas.{contexts_tell}
use Rattle.collectives.specs.declared.sends.TreeSend.{TreeSend}
use Rattle.collectives.specs.Tree.{end_of, children}
use Rattle.collectives.specs.Held.{are_from, here_of, is_up, is_up_of, others_of}
use Rattle.collectives.specs.Sends.{down_send, up_send}
use Rattle.collectives.specs.Sweeps.{Went, looked, completed, closed, handed_up, quiet}
use Rattle.collectives.specs.Slices.{Given}
use Rattle.collectives.specs.Stages.{Stage}
use Rattle.collectives.specs.System.{Parcel, MessagesAre, is_down_of, goes_up_from, goes_down_to}
use Rattle.collectives.specs.Underway.{rank_in, System, is_collective, with_sweep, GoesUp}
use Rattle.collectives.proofs.LookLemmas.{with_tree, with_tree-same, with_tree-other, parcels}

-- two collectives that differ have no message in common

pub other_place : (ctx : List Level) (position : ℕ) (c : List Level) (p : ℕ) (m : TreeMsg) → is_collective ctx position c p ≡ false
    → (is_same_ctx m.ctx c && nat_eq m.position p) ≡ true → (is_same_ctx m.ctx ctx && nat_eq m.position position) ≡ false
other_place ctx position c p m apart is = elim (cases_Bool (is_same_ctx m.ctx ctx && nat_eq m.position position)) [
  | inr f ↦ f
  | inl t ↦
      let one = and_parts (is_same_ctx m.ctx ctx) (nat_eq m.position position) t in
      let two = and_parts (is_same_ctx m.ctx c) (nat_eq m.position p) is in
      let ctx_is : c ≡ ctx = sym ((contexts_tell m.ctx c).0 two.0) ∙ (contexts_tell m.ctx ctx).0 one.0 in
      let position_is : p ≡ position = sym (eqb-true m.position p two.1) ∙ eqb-true m.position position one.1 in
      absurd (true≢false (sym (and_from (is_same_ctx c ctx) (nat_eq p position) ((contexts_tell c ctx).1 ctx_is) (eq-eqb p position position_is)) ∙ apart))
]

pub other_up : (ctx : List Level) (position : ℕ) (c : List Level) (p : ℕ) (m : TreeMsg) → is_collective ctx position c p ≡ false → is_up_of c p m ≡ true → is_up_of ctx position m ≡ false
other_up ctx position c p m apart up =
    and_left (is_same_ctx m.ctx ctx && nat_eq m.position position) (is_up m.direction) (other_place ctx position c p m apart (and_parts (is_same_ctx m.ctx c && nat_eq m.position p) (is_up m.direction) up).0)

-- a message of one collective is of no other
pub not_of_other : (ctx : List Level) (position : ℕ) (c : List Level) (p : ℕ) (m : TreeMsg) → is_collective ctx position c p ≡ false → m.ctx ≡ ctx → m.position ≡ position → (is_same_ctx m.ctx c && nat_eq m.position p) ≡ false
not_of_other ctx position c p m apart e f = elim (cases_Bool (is_same_ctx m.ctx c && nat_eq m.position p)) [
  | inr no_place ↦ no_place
  | inl t ↦ absurd (true≢false (sym (and_from (is_same_ctx m.ctx ctx) (nat_eq m.position position) ((contexts_tell m.ctx ctx).1 e) (eq-eqb m.position position f)) ∙ other_place ctx position c p m apart t))
]

-- what a member that looks leaves of other collectives, and what it sends
filter_twice : (p q : TreeMsg → Bool) (tree : List TreeMsg) → ((m : TreeMsg) → p m ≡ true → q m ≡ false) → filter p (filter (λ m. not (q m)) tree) ≡ filter p tree
filter_twice p q [] h = refl
filter_twice p q (m ∷ tree) h = elim (cases_Bool (q m)) [
  | inr f ↦ elim (cases_Bool (p m)) [
    | inl t ↦ rw (f, t) (ap (λ xs. m ∷ xs) (filter_twice p q tree h))
    | inr n ↦ rw (f, n) (filter_twice p q tree h)
  ]
  | inl t ↦
      let none : p m ≡ false = elim (cases_Bool (p m)) [ inl y ↦ absurd (true≢false (sym t ∙ h m y)) | inr n ↦ n ] in
      rw (t, none) (filter_twice p q tree h)
]

-- of the collective of this context and position
abbrev pub OfPlace : List Level → ℕ → TreeMsg → Type 0
OfPlace ctx position m = (m.ctx ≡ ctx) × (m.position ≡ position)

downs_of_place : (j : Joined) (list : List Arg) (cs : List ℕ) → All (λ x. OfPlace j.ctx j.position x.message) (map (down_send j list) cs)
downs_of_place j list [] = All-nil (λ x. OfPlace j.ctx j.position x.message)
downs_of_place j list (c ∷ cs) = All-cons (λ x. OfPlace j.ctx j.position x.message) (down_send j list c) (map (down_send j list) cs) (refl, refl) (downs_of_place j list cs)

-- what a call leaves: of other collectives all stays, the order stays, what is sent is of this collective, and what is held
-- only goes up
pub record LeavesOthers (ctx : List Level) (position : ℕ) (old : List TreeMsg) (w : Went) : Type 0 where
  pub kept : (c : List Level) (p : ℕ) → is_collective ctx position c p ≡ false → filter (is_up_of c p) w.sweep.tree ≡ filter (is_up_of c p) old
  pub sent : All (λ x. OfPlace ctx position x.message) w.out.sends
  pub ordered : IsTreeOrdered old → IsTreeOrdered w.sweep.tree
  pub only_up : All GoesUp old → All GoesUp w.sweep.tree

others_leave : (j : Joined) (old : List TreeMsg) (c : List Level) (p : ℕ) → is_collective j.ctx j.position c p ≡ false → filter (is_up_of c p) (others_of j.ctx j.position old) ≡ filter (is_up_of c p) old
others_leave j old c p apart = filter_twice (is_up_of c p) (is_up_of j.ctx j.position) old (λ m up. other_up j.ctx j.position c p m apart up)

order_leave : (j : Joined) (old : List TreeMsg) → IsTreeOrdered old → IsTreeOrdered (others_of j.ctx j.position old)
order_leave j old h = AllPairs-filter (λ a b. is_tree_before a b ≡ true) (λ m. not (is_up_of j.ctx j.position m)) old h

up_leave : (j : Joined) (old : List TreeMsg) → All GoesUp old → All GoesUp (others_of j.ctx j.position old)
up_leave j old h = All-filter (λ m. not (is_up_of j.ctx j.position m)) GoesUp old h

pub closed_leaves : (n : ℕ) (j : Joined) (list : List Arg) (old : List TreeMsg) → LeavesOthers j.ctx j.position old (closed n j list old)
closed_leaves n j list old = record { kept = λ c p apart. refl; sent = downs_of_place j list (children n j.arg.member); ordered = λ h. h; only_up = λ h. h }

pub looked_leaves : (n : ℕ) (j : Joined) (old : List TreeMsg) → LeavesOthers j.ctx j.position old (looked n j old)
looked_leaves n j old =
    let m : ℕ = j.arg.member in
    let here : List Arg = here_of j old in
    let rest : List TreeMsg = others_of j.ctx j.position old in
    let G : Went → Type 0 = LeavesOthers j.ctx j.position old in
    elim (cases_Bool (are_from m (end_of n m) here)) [
      | inr f ↦ subst G (sym (cond-false (are_from m (end_of n m) here) (completed n j old) (quiet (Some j) old) f))
          (record { kept = λ c p apart. refl; sent = All-nil (λ (x : TreeSend). OfPlace j.ctx j.position x.message); ordered = λ h. h; only_up = λ h. h })
      | inl t ↦ subst G (sym (cond-true (are_from m (end_of n m) here) (completed n j old) (quiet (Some j) old) t)) (elim (cases_Bool (nat_eq m 0)) [
        | inl e ↦ subst G (sym (cond-true (nat_eq m 0) (closed n j here rest) (handed_up j here rest) e))
            (record { kept = λ c p apart. others_leave j old c p apart; sent = downs_of_place j here (children n m); ordered = λ h. order_leave j old h; only_up = λ h. up_leave j old h })
        | inr f ↦ subst G (sym (cond-false (nat_eq m 0) (closed n j here rest) (handed_up j here rest) f))
            (record {
              kept = λ c p apart. others_leave j old c p apart;
              sent = All-cons (λ (x : TreeSend). OfPlace j.ctx j.position x.message) (up_send j here) [] (refl, refl) (All-nil (λ (x : TreeSend). OfPlace j.ctx j.position x.message));
              ordered = λ h. order_leave j old h;
              only_up = λ h. up_leave j old h;
            })
      ])
    ]

-- what is sent in one collective isn't under way in another
pub sent_up_none : (rank : ℕ → ℕ) (ctx : List Level) (position : ℕ) (c : List Level) (p i : ℕ) (sends : List TreeSend) → is_collective ctx position c p ≡ false → All (λ x. OfPlace ctx position x.message) sends
    → All (λ x. goes_up_from c p i x ≡ false) (parcels rank sends)
sent_up_none rank ctx position c p i [] apart h = All-nil (λ x. goes_up_from c p i x ≡ false)
sent_up_none rank ctx position c p i (x ∷ sends) apart h =
    let is = All-head (λ (y : TreeSend). OfPlace ctx position y.message) x sends h in
    All-cons (λ y. goes_up_from c p i y ≡ false) (record { to = rank x.to; message = x.message }) (parcels rank sends)
    (and_left (is_up_of c p x.message) (nat_eq x.message.member i) (and_left (is_same_ctx x.message.ctx c && nat_eq x.message.position p) (is_up x.message.direction) (not_of_other ctx position c p x.message apart is.0 is.1)))
    (sent_up_none rank ctx position c p i sends apart (All-tail (λ (y : TreeSend). OfPlace ctx position y.message) x sends h))

pub sent_down_none : (rank : ℕ → ℕ) (ctx : List Level) (position : ℕ) (c : List Level) (p r : ℕ) (sends : List TreeSend) → is_collective ctx position c p ≡ false → All (λ x. OfPlace ctx position x.message) sends
    → All (λ x. goes_down_to c p r x ≡ false) (parcels rank sends)
sent_down_none rank ctx position c p r [] apart h = All-nil (λ x. goes_down_to c p r x ≡ false)
sent_down_none rank ctx position c p r (x ∷ sends) apart h =
    let is = All-head (λ (y : TreeSend). OfPlace ctx position y.message) x sends h in
    All-cons (λ y. goes_down_to c p r y ≡ false) (record { to = rank x.to; message = x.message }) (parcels rank sends)
    (and_left (is_down_of c p x.message) (nat_eq (rank x.to) r) (and_left (is_same_ctx x.message.ctx c && nat_eq x.message.position p) (not (is_up x.message.direction)) (not_of_other ctx position c p x.message apart is.0 is.1)))
    (sent_down_none rank ctx position c p r sends apart (All-tail (λ (y : TreeSend). OfPlace ctx position y.message) x sends h))

-- the messages of a collective, where of it nothing changes
pub same_messages : (c : List Level) (p n : ℕ) (rank : ℕ → ℕ) (given : Given) (stage : ℕ → Stage) (trees new : ℕ → List TreeMsg) (bag bag' : List Parcel)
    → MessagesAre c p n rank given stage trees bag → ((k : ℕ) → k < n → filter (is_up_of c p) (new k) ≡ filter (is_up_of c p) (trees k))
    → ((i : ℕ) → filter (goes_up_from c p i) bag' ≡ filter (goes_up_from c p i) bag) → ((r : ℕ) → filter (goes_down_to c p r) bag' ≡ filter (goes_down_to c p r) bag)
    → MessagesAre c p n rank given stage new bag'
same_messages c p n rank given stage trees new bag bag' m t u d = record {
  held = λ i within. t i within ∙ m.held i within;
  rising = λ i within. u i ∙ m.rising i within;
  no_others = λ i past. u i ∙ m.no_others i past;
  falling = λ i within. d (rank i) ∙ m.falling i within;
  no_strays = λ r none. d r ∙ m.no_strays r none;
}

pub with_sweep-same : (r : ℕ) (w : Sweep) (sweeps : ℕ → Sweep) → with_sweep r w sweeps r ≡ w
with_sweep-same r w sweeps = cond-true (nat_eq r r) w (sweeps r) (eq-eqb r r refl)

pub with_sweep-other : (r : ℕ) (w : Sweep) (sweeps : ℕ → Sweep) (q : ℕ) → q ≢ r → with_sweep r w sweeps q ≡ sweeps q
with_sweep-other r w sweeps q other = cond-false (nat_eq q r) w (sweeps q) (ne_eqb q r other)

-- trees of another collective's members after a call at a rank
pub trees_kept : (ctx : List Level) (position : ℕ) (r : ℕ) (s : System) (w : Went) (g : Group) (p k : ℕ) → LeavesOthers ctx position (s.sweeps r).tree w → is_collective ctx position g.ctx p ≡ false
    → filter (is_up_of g.ctx p) (with_sweep r w.sweep s.sweeps (rank_in g k)).tree ≡ filter (is_up_of g.ctx p) (s.sweeps (rank_in g k)).tree
trees_kept ctx position r s w g p k l apart = elim (cases_eq (rank_in g k) r) [
  | inl e ↦
      let here : with_sweep r w.sweep s.sweeps (rank_in g k) ≡ w.sweep = ap (with_sweep r w.sweep s.sweeps) e ∙ with_sweep-same r w.sweep s.sweeps in
      ap (λ x. filter (is_up_of g.ctx p) x.tree) here ∙ (l.kept g.ctx p apart ∙ ap (λ q. filter (is_up_of g.ctx p) (s.sweeps q).tree) (sym e))
  | inr other ↦ ap (λ x. filter (is_up_of g.ctx p) x.tree) (with_sweep-other r w.sweep s.sweeps (rank_in g k) other)
]

-- trees of the collective's own members
pub trees_of : (g : Group) (m : ℕ) (s : System) (w : Sweep) (k : ℕ) → ((x y : ℕ) → x < length g.members → y < length g.members → rank_in g x ≡ rank_in g y → x ≡ y) → m < length g.members → k < length g.members
    → (with_sweep (rank_in g m) w s.sweeps (rank_in g k)).tree ≡ with_tree m w.tree (λ i. (s.sweeps (rank_in g i)).tree) k
trees_of g m s w k distinct m_within within = elim (cases_eq k m) [
  | inl e ↦
      ap (λ x. (with_sweep (rank_in g m) w s.sweeps (rank_in g x)).tree) e ∙ (ap (λ x. x.tree) (with_sweep-same (rank_in g m) w s.sweeps)
      ∙ sym (ap (with_tree m w.tree (λ i. (s.sweeps (rank_in g i)).tree)) e ∙ with_tree-same m w.tree (λ i. (s.sweeps (rank_in g i)).tree)))
  | inr other ↦
      ap (λ x. x.tree) (with_sweep-other (rank_in g m) w s.sweeps (rank_in g k) (λ h. other (distinct k m within m_within h)))
      ∙ sym (with_tree-other m w.tree (λ i. (s.sweeps (rank_in g i)).tree) k other)
]
