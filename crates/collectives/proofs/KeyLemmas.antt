-- Where a message arrives, none of the same key is held.
use Rattle.std.proofs.Common.{ℕ, ◌≡◌, ◌≢◌, ◌<◌, inl, inr, List, [], ◌∷◌, ◌++◌, map, cond, Bool, true, false, ◌&&◌, Option, Some, None, length, refl, sym, subst, ap, ◌∙◌, arith}
use Rattle.std.specs.Prelude.{nat_eq, is_some, All, filter}
use Rattle.std.proofs.lemmas.Bool.{cases_Bool, and_from, eq-eqb, true≢false, false≢true}
use Rattle.std.proofs.lemmas.List.Elements.{All-nil, All-cons, All-head, All-tail, All-weaker, All-map}
use Rattle.mpi_types.specs.declared.argument.TreeMsg.{TreeMsg}
use Rattle.mpi_types.specs.declared.context.Level.{Level}
use Rattle.mpi_types.specs.declared.group.Group.{Group}
use Rattle.mpi_types.specs.Accepts.{is_same_ctx}
use Rattle.mpi_types.proofs.AcceptLemmas.{contexts_tell}
use Rattle.collectives.specs.declared.sends.TreeSend.{TreeSend}
use Rattle.collectives.specs.Tree.{parent_of, children}
use Rattle.collectives.specs.Held.{is_up, is_up_of}
use Rattle.collectives.specs.Slices.{up_of}
use Rattle.collectives.specs.Stages.{Stage, is_held}
use Rattle.collectives.specs.Sweeps.{IsSameKey, IsNotHeld}
use Rattle.collectives.specs.System.{Parcel, MessagesAre}
use Rattle.collectives.specs.Underway.{Groups, rank_in, AreGroups, Gives, System, Collective, UnderwayAt, GoesUp, IsKnown, parcels_by}
use Rattle.collectives.proofs.TreeLemmas.{parent_less}
use Rattle.collectives.proofs.ComeLemmas.{comes_up}
use Rattle.collectives.proofs.SystemLemmas.{OfPlace}

-- one taken out of the middle, and the rest
pub all_taken : (P : Parcel → Type 0) (before : List Parcel) (p : Parcel) (after : List Parcel) → All P (before ++ p ∷ after) → P p × All P (before ++ after)
all_taken P [] p after h = (All-head P p after h, All-tail P p after h)
all_taken P (x ∷ before) p after h =
    let rest = all_taken P before p after (All-tail P x (before ++ p ∷ after) h) in
    (rest.0, All-cons P x (before ++ after) (All-head P x (before ++ p ∷ after) h) rest.1)

-- what is sent in a known collective is of a known context
pub sent_known : (groups : Groups) (ctx : List Level) (position : ℕ) (g : Option Group) (sends : List TreeSend) → is_some (groups ctx) ≡ true → All (λ x. OfPlace ctx position x.message) sends → All (IsKnown groups) (parcels_by g sends)
sent_known groups ctx position None sends k h = All-nil (IsKnown groups)
sent_known groups ctx position (Some g) sends k h =
    let f : TreeSend → Parcel = λ x. record { to = rank_in g x.to; message = x.message } in
    let Of : TreeSend → Type 0 = λ x. OfPlace ctx position x.message in
    let Known : TreeSend → Type 0 = λ x. IsKnown groups (f x) in
    All-map (IsKnown groups) f sends (All-weaker Of Known (λ x is. ap (λ c. is_some (groups c)) is.0 ∙ k) sends h)

none_is : (test : ℕ → Bool) (c : ℕ) (ks : List ℕ) → test c ≡ false → All (λ k. k ≢ c) (filter test ks)
none_is test c [] fails = All-nil (λ k. k ≢ c)
none_is test c (k ∷ ks) fails = elim (cases_Bool (test k)) [
  | inl t ↦ rw t (All-cons (λ x. x ≢ c) k (filter test ks) (λ e. true≢false (sym t ∙ (ap test e ∙ fails))) (none_is test c ks fails))
  | inr f ↦ rw f (none_is test c ks fails)
]

from_filter : (test : TreeMsg → Bool) (Q R : TreeMsg → Type 0) (tree : List TreeMsg) → ((m : TreeMsg) → test m ≡ false → R m) → ((m : TreeMsg) → Q m → R m) → All Q (filter test tree) → All R tree
from_filter test Q R [] out within h = All-nil R
from_filter test Q R (m ∷ tree) out within h = elim (cases_Bool (test m)) [
  | inl t ↦
      let K : Bool → Type 0 = λ b. All Q (cond b (m ∷ filter test tree) (filter test tree)) in
      let all : All Q (m ∷ filter test tree) = subst K t h in
      All-cons R m tree (within m (All-head Q m (filter test tree) all)) (from_filter test Q R tree out within (All-tail Q m (filter test tree) all))
  | inr f ↦
      let K : Bool → Type 0 = λ b. All Q (cond b (m ∷ filter test tree) (filter test tree)) in
      All-cons R m tree (out m f) (from_filter test Q R tree out within (subst K f h))
]

pub the_group : (o : Option Group) → is_some o ≡ true → (x : Group) × (o ≡ Some x)
the_group None e = absurd (false≢true e)
the_group (Some x) e = (x, refl)

pub not_held_at : (groups : Groups) (gives : Gives) (s : System) (stages : List Level → ℕ → ℕ → Stage) (before : List Parcel) (p : Parcel) (after : List Parcel) → AreGroups groups → UnderwayAt groups gives s stages
    → s.bag ≡ before ++ p ∷ after → IsNotHeld p.message (s.sweeps p.to).tree
not_held_at groups gives s stages before p after are u there =
    let t : TreeMsg = p.message in
    let position : ℕ = t.position in
    let B : List Parcel → Type 0 = λ x. All (IsKnown groups) x in
    let found = the_group (groups t.ctx) (all_taken (IsKnown groups) before p after (subst B there u.known)).0 in
    let h : Group = found.0 in
    let known : groups t.ctx ≡ Some h = found.1 in
    let n : ℕ = length h.members in
    let own_ctx : h.ctx ≡ t.ctx = are.own_ctx t.ctx h known in
    let stage : ℕ → Stage = stages h.ctx position in
    let c : Collective gives s h position stage = u.each t.ctx h position known in
    let M : List Parcel → Type 0 = λ x. MessagesAre h.ctx position n (rank_in h) (gives h.ctx position) stage (λ i. (s.sweeps (rank_in h i)).tree) x in
    let messages : M (before ++ p ∷ after) = subst M there c.messages in
    let Not : TreeMsg → Type 0 = λ m. IsSameKey t m → ⊥ in
    let goes : (m : TreeMsg) → m.ctx ≡ h.ctx → m.position ≡ position → is_up m.direction ≡ true → is_up_of h.ctx position m ≡ true =
    λ m e f up. and_from (is_same_ctx m.ctx h.ctx && nat_eq m.position position) (is_up m.direction)
    (and_from (is_same_ctx m.ctx h.ctx) (nat_eq m.position position) ((contexts_tell m.ctx h.ctx).1 e) (eq-eqb m.position position f)) up in
    elim (cases_Bool (is_up t.direction)) [
      | inr down ↦ All-weaker GoesUp Not (λ m up same. true≢false (sym (ap is_up (same.direction ∙ up)) ∙ down)) (s.sweeps p.to).tree (u.only_up p.to)
      | inl up ↦
          let cu = comes_up h.ctx position n (rank_in h) (gives h.ctx position) (s.who h.ctx position) stage (λ i. (s.sweeps (rank_in h i)).tree) before p after (are.room t.ctx h known) c.fits c.waits messages
          (goes t (sym own_ctx) refl up) (λ k inside. u.ordered (rank_in h k)) in
          let q : ℕ = parent_of t.member in
          let q_within : q < n = omega (arith, parent_less t.member cu.sender_some, cu.sender_within) in
          let q_rank : rank_in h q ≡ p.to = sym (ap (λ x. x.to) cu.is) in
          let brought : ℕ → TreeMsg = up_of h.ctx position n (gives h.ctx position) in
          let Other : TreeMsg → Type 0 = λ m. m.member ≢ t.member in
          let A : List TreeMsg → Type 0 = λ x. All Other x in
          let others : A (map brought (filter (λ k. is_held (stage k)) (children n q))) =
          All-map Other brought (filter (λ k. is_held (stage k)) (children n q)) (none_is (λ k. is_held (stage k)) t.member (children n q) (ap is_held cu.was)) in
          let T : ℕ → Type 0 = λ r. IsNotHeld t (s.sweeps r).tree in
          subst T q_rank (from_filter (is_up_of h.ctx position) Other Not (s.sweeps (rank_in h q)).tree
          (λ m fails same. true≢false (sym (goes m (sym same.ctx ∙ sym own_ctx) (sym same.position) (ap is_up (sym same.direction) ∙ up)) ∙ fails))
          (λ m other same. other (sym same.member))
          (subst A (sym (messages.held q q_within)) others))
    ]
