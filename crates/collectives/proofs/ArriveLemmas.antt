-- A message that arrives keeps all collectives under way.
use Rattle.std.proofs.Common.{ℕ, ◌≡◌, ◌≢◌, ◌⊎◌, inl, inr, List, [], ◌++◌, true, false, ◌&&◌, Option, Some, None, length, refl, sym, subst, ap, ◌∙◌}
use Rattle.std.specs.Prelude.{nat_eq, not, All, filter}
use Rattle.std.proofs.lemmas.Bool.{cases_Bool, cases_eq, and_parts, and_from, and_left, eqb-true, eq-eqb, false≢true, cond-true, cond-false}
use Rattle.std.proofs.lemmas.List.Elements.{All-nil, All-append}
use Rattle.mpi_types.specs.declared.argument.Arg.{Arg}
use Rattle.mpi_types.specs.declared.argument.Joined.{Joined}
use Rattle.mpi_types.specs.declared.argument.Sweep.{Sweep}
use Rattle.mpi_types.specs.declared.argument.TreeMsg.{TreeMsg}
use Rattle.mpi_types.specs.declared.context.Level.{Level}
use Rattle.mpi_types.specs.declared.group.Group.{Group}
use Rattle.mpi_types.specs.Accepts.{is_same_ctx}
use Rattle.mpi_types.specs.Order.{IsTreeOrdered}
use Rattle.mpi_types.proofs.AcceptLemmas.{contexts_tell}
use Rattle.collectives.specs.declared.sends.TreeSend.{TreeSend}
use Rattle.collectives.specs.Held.{is_up, is_up_of}
use Rattle.collectives.specs.Sweeps.{Went}
use Rattle.collectives.specs.Stages.{Stage}
use Rattle.collectives.specs.System.{Parcel, is_down_of, goes_up_from, goes_down_to}
use Rattle.collectives.specs.Underway.{Groups, rank_in, AreGroups, Gives, System, is_collective, with_sweep, Collective, IsCall, UnderwayAt, Underway, GoesUp, IsKnown}
use Rattle.std.specs.Prelude.{is_none}
use Rattle.collectives.specs.Sweeps.{awaits, kept, arrived, arrived_at, goes_on}
use Rattle.collectives.specs.Underway.{MayArrive, went_at_arrival, parcels_by, after_arrival}
use Rattle.collectives.proofs.BagLemmas.{taken_other}
use Rattle.collectives.proofs.KeyLemmas.{all_taken, sent_known}
use Rattle.collectives.proofs.SystemLemmas.{LeavesOthers, not_of_other, with_sweep-same, with_sweep-other}
use Rattle.collectives.proofs.JoinLemmas.{with_stages, same_collective, which_collective, other_collective}

-- how a message is taken
pub record IsKept (g : Option Group) (old : Sweep) (t : TreeMsg) (w : Went) : Type 0 where
  pub is : w ≡ kept old.joined old.tree t
  pub not_awaited : (h : Group) (j : Joined) → g ≡ Some h → old.joined ≡ Some j → awaits j t ≡ false

pub record IsAwaited (g : Option Group) (old : Sweep) (t : TreeMsg) (w : Went) : Type 0 where
  pub group : Group
  pub j : Joined
  pub group_is : g ≡ Some group
  pub joined_is : old.joined ≡ Some j
  pub awaited : awaits j t ≡ true
  pub is : w ≡ goes_on t.direction (length group.members) j old.tree t

at_joined_cases : (h : Group) (tree : List TreeMsg) (t : TreeMsg) (joined : Option Joined)
    → ((arrived_at h tree t joined ≡ kept joined tree t) × ((j : Joined) → joined ≡ Some j → awaits j t ≡ false))
    ⊎ ((j : Joined) × ((joined ≡ Some j) × ((awaits j t ≡ true) × (arrived_at h tree t joined ≡ goes_on t.direction (length h.members) j tree t))))
at_joined_cases h tree t None = inl (refl, λ j e. absurd (never j e))
  where
    never : (j : Joined) → None ≡ Some j → ⊥
    never j e = cc
at_joined_cases h tree t (Some j) = elim (cases_Bool (awaits j t)) [
  | inl y ↦ inr (j, (refl, (y, cond-true (awaits j t) (goes_on t.direction (length h.members) j tree t) (kept (Some j) tree t) y)))
  | inr n ↦ inl (cond-false (awaits j t) (goes_on t.direction (length h.members) j tree t) (kept (Some j) tree t) n, λ k e. same j k t n e)
]
  where
    same : (j k : Joined) (t : TreeMsg) → awaits j t ≡ false → Some j ≡ Some k → awaits k t ≡ false
    same j k t n e = let q : j ≡ k = cc in ap (λ x. awaits x t) (sym q) ∙ n

pub arrived_cases : (g : Option Group) (old : Sweep) (t : TreeMsg) → IsKept g old t (arrived g old t) ⊎ IsAwaited g old t (arrived g old t)
arrived_cases None old t = inl (record { is = refl; not_awaited = λ h j e f. absurd (never h e) })
  where
    never : (h : Group) → None ≡ Some h → ⊥
    never h e = cc
arrived_cases (Some h) old t = elim (at_joined_cases h old.tree t old.joined) [
  | inl is ↦ inl (record { is = is.0; not_awaited = λ x j e f. is.1 j f })
  | inr is ↦ inr (record { group = h; j = is.0; group_is = refl; joined_is = is.1.0; awaited = is.1.1.0; is = is.1.1.1 })
]

-- what an awaited message says of what was joined
pub awaited_is : (j : Joined) (t : TreeMsg) → awaits j t ≡ true → (j.ctx ≡ t.ctx) × ((j.position ≡ t.position) × (is_none j.gathered ≡ true))
awaited_is j t e =
    let one = and_parts (is_same_ctx j.ctx t.ctx && nat_eq j.position t.position) (is_none j.gathered) e in
    let two = and_parts (is_same_ctx j.ctx t.ctx) (nat_eq j.position t.position) one.0 in
    ((contexts_tell j.ctx t.ctx).0 two.0, (eqb-true j.position t.position two.1, one.1))

pub none_is : (o : Option (List Arg)) → is_none o ≡ true → o ≡ None
none_is None e = refl
none_is (Some x) e = absurd (false≢true e)

pub awaits_call : (ctx : List Level) (position : ℕ) (a : Arg) (t : TreeMsg) → ctx ≡ t.ctx → position ≡ t.position → awaits (record { ctx = ctx; position = position; arg = a; gathered = None }) t ≡ true
awaits_call ctx position a t e f =
    and_from (is_same_ctx ctx t.ctx && nat_eq position t.position) true (and_from (is_same_ctx ctx t.ctx) (nat_eq position t.position) ((contexts_tell ctx t.ctx).1 e) (eq-eqb position t.position f)) refl

-- what an arrival leads to, as the collectives are concerned
pub record Outcome (groups : Groups) (gives : Gives) (s s2 : System) (stages : List Level → ℕ → ℕ → Stage) (r : ℕ) (t : TreeMsg) (w : Went) : Type 0 where
  pub stage' : ℕ → Stage
  pub this : (h : Group) → groups t.ctx ≡ Some h → Collective gives s2 h t.position stage'
  pub leaves : LeavesOthers t.ctx t.position (s.sweeps r).tree w
  pub keeps : (j : Joined) → is_collective t.ctx t.position j.ctx j.position ≡ false → (s.sweeps r).joined ≡ Some j → w.sweep.joined ≡ Some j
  pub own : (j : Joined) → w.sweep.joined ≡ Some j → IsCall groups gives s2 (with_stages t.ctx t.position stage' stages) r j
  pub others : (q : ℕ) (j : Joined) → q ≢ r → (s.sweeps q).joined ≡ Some j → IsCall groups gives s2 (with_stages t.ctx t.position stage' stages) q j

-- from an outcome, all
pub from_outcome : (groups : Groups) (gives : Gives) (s : System) (stages : List Level → ℕ → ℕ → Stage) (before : List Parcel) (p : Parcel) (after : List Parcel) (g : Option Group) → AreGroups groups → UnderwayAt groups gives s stages
    → MayArrive groups s before p after g → Outcome groups gives s (after_arrival s before p after g) stages p.to p.message (went_at_arrival s p g) → Underway groups gives (after_arrival s before p after g)
from_outcome groups gives s stages before p after g are u may o =
    let t : TreeMsg = p.message in
    let r : ℕ = p.to in
    let w : Went = went_at_arrival s p g in
    let s2 : System = after_arrival s before p after g in
    let S : List Level → ℕ → ℕ → Stage = with_stages t.ctx t.position o.stage' stages in
    record {
      stages = S;
      at = record {
        each = λ ctx h position known. elim (which_collective t.ctx t.position h.ctx position) [
          | inl is ↦
              let here : groups t.ctx ≡ Some h = ap groups (sym is.0) ∙ (ap groups (are.own_ctx ctx h known) ∙ known) in
              let now : S h.ctx t.position ≡ o.stage' = ap (λ x. S x t.position) is.0 ∙ cond-true (is_collective t.ctx t.position t.ctx t.position) o.stage' (stages t.ctx t.position) (same_collective t.ctx t.position) in
              let D : (ℕ → Stage) → Type 0 = λ x. Collective gives s2 h t.position x in
              let E : ℕ → Type 0 = λ y. Collective gives s2 h y (S h.ctx y) in
              subst E (sym is.1) (subst D (sym now) (o.this h here))
          | inr apart ↦
              let now : S h.ctx position ≡ stages h.ctx position = cond-false (is_collective t.ctx t.position h.ctx position) o.stage' (stages h.ctx position) apart in
              let D : (ℕ → Stage) → Type 0 = λ x. Collective gives s2 h position x in
              let none : (is_same_ctx t.ctx h.ctx && nat_eq t.position position) ≡ false = not_of_other t.ctx t.position h.ctx position t apart refl refl in
              let up : (i : ℕ) → filter (goes_up_from h.ctx position i) (before ++ after) ≡ filter (goes_up_from h.ctx position i) s.bag =
              λ i. taken_other (goes_up_from h.ctx position i) before p after (and_left (is_up_of h.ctx position t) (nat_eq t.member i) (and_left (is_same_ctx t.ctx h.ctx && nat_eq t.position position) (is_up t.direction) none))
              ∙ ap (filter (goes_up_from h.ctx position i)) (sym may.there) in
              let down : (q : ℕ) → filter (goes_down_to h.ctx position q) (before ++ after) ≡ filter (goes_down_to h.ctx position q) s.bag =
              λ q. taken_other (goes_down_to h.ctx position q) before p after (and_left (is_down_of h.ctx position t) (nat_eq p.to q) (and_left (is_same_ctx t.ctx h.ctx && nat_eq t.position position) (not (is_up t.direction)) none))
              ∙ ap (filter (goes_down_to h.ctx position q)) (sym may.there) in
              subst D (sym now) (by_group g h position (stages h.ctx position) w (u.each ctx h position known) o.leaves apart up down
              (λ j e f is. o.keeps j (ap (λ x. is_collective t.ctx t.position x j.position) e ∙ (ap (is_collective t.ctx t.position h.ctx) f ∙ apart)) is))
        ];
        own = λ q j is. elim (cases_eq q r) [
          | inr other ↦ o.others q j other (ap (λ x. x.joined) (sym (with_sweep-other r w.sweep s.sweeps q other)) ∙ is)
          | inl e ↦
              let here : w.sweep.joined ≡ Some j = ap (λ x. x.joined) (sym (with_sweep-same r w.sweep s.sweeps)) ∙ (ap (λ x. (with_sweep r w.sweep s.sweeps x).joined) (sym e) ∙ is) in
              let P : ℕ → Type 0 = λ x. IsCall groups gives s2 S x j in
              subst P (sym e) (o.own j here)
        ];
        ordered = λ q. elim (cases_eq q r) [
          | inr other ↦ let O : Sweep → Type 0 = λ x. IsTreeOrdered x.tree in subst O (sym (with_sweep-other r w.sweep s.sweeps q other)) (u.ordered q)
          | inl e ↦
              let O : Sweep → Type 0 = λ x. IsTreeOrdered x.tree in
              let Q : ℕ → Type 0 = λ x. IsTreeOrdered (with_sweep r w.sweep s.sweeps x).tree in
              subst Q (sym e) (subst O (sym (with_sweep-same r w.sweep s.sweeps)) (o.leaves.ordered (u.ordered r)))
        ];
        only_up = λ q. elim (cases_eq q r) [
          | inr other ↦ let O : Sweep → Type 0 = λ x. All GoesUp x.tree in subst O (sym (with_sweep-other r w.sweep s.sweeps q other)) (u.only_up q)
          | inl e ↦
              let O : Sweep → Type 0 = λ x. All GoesUp x.tree in
              let Q : ℕ → Type 0 = λ x. All GoesUp (with_sweep r w.sweep s.sweeps x).tree in
              subst Q (sym e) (subst O (sym (with_sweep-same r w.sweep s.sweeps)) (o.leaves.only_up (u.only_up r)))
        ];
        known =
            let B : List Parcel → Type 0 = λ x. All (IsKnown groups) x in
            let taken = all_taken (IsKnown groups) before p after (subst B may.there u.known) in
            All-append (IsKnown groups) (before ++ after) (parcels_by g w.out.sends) taken.1 (sent_known groups t.ctx t.position g w.out.sends taken.0 o.leaves.sent);
      };
    }
  where
    by_group : (g' : Option Group) (h : Group) (position : ℕ) (stage : ℕ → Stage) (w : Went) → Collective gives s h position stage → LeavesOthers p.message.ctx p.message.position (s.sweeps p.to).tree w
        → is_collective p.message.ctx p.message.position h.ctx position ≡ false
        → ((i : ℕ) → filter (goes_up_from h.ctx position i) (before ++ after) ≡ filter (goes_up_from h.ctx position i) s.bag) → ((q : ℕ) → filter (goes_down_to h.ctx position q) (before ++ after) ≡ filter (goes_down_to h.ctx position q) s.bag)
        → ((j : Joined) → j.ctx ≡ h.ctx → j.position ≡ position → (s.sweeps p.to).joined ≡ Some j → w.sweep.joined ≡ Some j)
        → Collective gives (record { sweeps = with_sweep p.to w.sweep s.sweeps; bag = (before ++ after) ++ parcels_by g' w.out.sends; who = s.who }) h position stage
    by_group (Some x) h position stage w c l apart up down keeps = other_collective gives s h position stage p.message.ctx p.message.position p.to w (rank_in x) s.who (before ++ after) c l apart refl up down keeps
    by_group None h position stage w c l apart up down keeps =
        let quiet_w : Went = record { sweep = w.sweep; out = record { sends = []; gathered = false } } in
        other_collective gives s h position stage p.message.ctx p.message.position p.to quiet_w (rank_in h) s.who (before ++ after) c
        (record { kept = l.kept; sent = All-nil (λ (x : TreeSend). (x.message.ctx ≡ p.message.ctx) × (x.message.position ≡ p.message.position)); ordered = l.ordered; only_up = l.only_up }) apart refl up down keeps
