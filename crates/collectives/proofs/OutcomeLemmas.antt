-- What an arrival leads to.
use Rattle.std.proofs.Common.{ℕ, ◌≡◌, ◌<◌, ◌⊎◌, inl, inr, List, [], ◌++◌, true, false, ◌&&◌, Option, Some, None, length, refl, sym, subst, ap, ◌∙◌, arith, append-nil}
use Rattle.std.specs.Prelude.{nat_eq, is_some, filter}
use Rattle.std.proofs.lemmas.Bool.{cases_eq, and_left, true≢false, false≢true, cond-true, cond-false}
use Rattle.std.proofs.lemmas.List.Elements.{All-nil}
use Rattle.mpi_types.specs.declared.argument.Joined.{Joined}
use Rattle.mpi_types.specs.declared.argument.TreeMsg.{TreeMsg}
use Rattle.mpi_types.specs.declared.context.Level.{Level}
use Rattle.mpi_types.specs.declared.group.Group.{Group}
use Rattle.mpi_types.specs.Accepts.{is_same_ctx}
use Rattle.collectives.specs.declared.sends.TreeSend.{TreeSend}
use Rattle.collectives.specs.Tree.{parent_of}
use Rattle.collectives.specs.Held.{is_up, is_up_of, put_message}
use Rattle.collectives.specs.Sweeps.{Went}
use Rattle.collectives.specs.Stages.{Stage, is_apart, is_done}
use Rattle.collectives.specs.System.{Parcel, goes_up_from, goes_down_to}
use Rattle.collectives.specs.Underway.{Groups, rank_in, AreGroups, Gives, AllGive, System, is_collective, with_sweep, Collective, IsCall, UnderwayAt, GoesUp}
use Rattle.collectives.proofs.TreeLemmas.{parent_less}
use Rattle.collectives.proofs.LookLemmas.{is_it_apart, with_tree, with_tree-same, with_tree-other}
use Rattle.collectives.specs.Stages.{came_up}
use Rattle.collectives.specs.Sweeps.{kept, IsNotHeld}
use Rattle.collectives.specs.Underway.{MayArrive, parcels_by}
use Rattle.collectives.proofs.ChainLemmas.{has_some}
use Rattle.collectives.proofs.OrderLemmas.{put_filter_other, put_ordered, all_put}
use Rattle.collectives.proofs.ComeLemmas.{CameUp}
use Rattle.collectives.proofs.SystemLemmas.{LeavesOthers, not_of_other, same_messages, with_sweep-same, with_sweep-other}
use Rattle.collectives.proofs.JoinLemmas.{with_stages, same_collective, which_collective}
use Rattle.collectives.proofs.ArriveLemmas.{IsKept, awaits_call, Outcome}

pub option_cases : (o : Option Group) → (o ≡ None) ⊎ ((h : Group) × (o ≡ Some h))
option_cases None = inl refl
option_cases (Some h) = inr (h, refl)

pub kept_leaves : (joined : Option Joined) (old : List TreeMsg) (t : TreeMsg) → GoesUp t → IsNotHeld t old → LeavesOthers t.ctx t.position old (kept joined old t)
kept_leaves joined old t up none = record {
  kept = λ c p apart. put_filter_other (is_up_of c p) t old (and_left (is_same_ctx t.ctx c && nat_eq t.position p) (is_up t.direction) (not_of_other t.ctx t.position c p t apart refl refl));
  sent = All-nil (λ (x : TreeSend). (x.message.ctx ≡ t.ctx) × (x.message.position ≡ t.position));
  ordered = λ h. put_ordered t old h none;
  only_up = λ h. all_put GoesUp t old up h;
}

-- what was joined is as before, in stages that say the same of who has gathered
call_same : (groups : Groups) (gives : Gives) (s s2 : System) (stages : List Level → ℕ → ℕ → Stage) (ctx : List Level) (position : ℕ) (stage' : ℕ → Stage) (r : ℕ) (j : Joined)
    → IsCall groups gives s stages r j → ((c : List Level) (p k : ℕ) → s.who c p k ≡ true → s2.who c p k ≡ true) → ((k : ℕ) → is_done (stage' k) ≡ is_done (stages ctx position k))
    → IsCall groups gives s2 (with_stages ctx position stage' stages) r j
call_same groups gives s s2 stages ctx position stage' r j call more same = record {
  group = call.group;
  known = call.known;
  member = call.member;
  rank = call.rank;
  gave = call.gave;
  has_joined = more j.ctx j.position j.arg.member call.has_joined;
  list = call.list;
  done = elim (which_collective ctx position j.ctx j.position) [
    | inr apart ↦ ap (λ f. is_done (f j.arg.member)) (cond-false (is_collective ctx position j.ctx j.position) stage' (stages j.ctx j.position) apart) ∙ call.done
    | inl is ↦
        let now : with_stages ctx position stage' stages j.ctx j.position ≡ stage' =
        ap (λ x. with_stages ctx position stage' stages x j.position) is.0 ∙ (ap (λ x. with_stages ctx position stage' stages ctx x) is.1 ∙ cond-true (is_collective ctx position ctx position) stage' (stages ctx position) (same_collective ctx position)) in
        ap (λ f. is_done (f j.arg.member)) now ∙ (same j.arg.member
        ∙ (ap (λ x. is_done (stages x position j.arg.member)) (sym is.0) ∙ (ap (λ x. is_done (stages j.ctx x j.arg.member)) (sym is.1) ∙ call.done)))
  ];
}

no_bag : (g : Option Group) → parcels_by g [] ≡ []
no_bag None = refl
no_bag (Some g) = refl

-- what comes up is kept where the parent hasn't joined
pub kept_outcome : (groups : Groups) (gives : Gives) (s : System) (stages : List Level → ℕ → ℕ → Stage) (before : List Parcel) (p : Parcel) (after : List Parcel) (g : Option Group) (w : Went) (h : Group)
    → AreGroups groups → AllGive groups gives → UnderwayAt groups gives s stages → MayArrive groups s before p after g → groups p.message.ctx ≡ Some h → IsNotHeld p.message (s.sweeps p.to).tree
    → IsKept g (s.sweeps p.to) p.message w
    → CameUp h.ctx p.message.position (length h.members) (rank_in h) (gives h.ctx p.message.position) (s.who h.ctx p.message.position) (stages h.ctx p.message.position) (λ i. (s.sweeps (rank_in h i)).tree) (before ++ after) p
    → Outcome groups gives s (record { sweeps = with_sweep p.to w.sweep s.sweeps; bag = (before ++ after) ++ parcels_by g w.out.sends; who = s.who }) stages p.to p.message w
kept_outcome groups gives s stages before p after g w h are all u may known not_held k cu =
    let t : TreeMsg = p.message in
    let r : ℕ = p.to in
    let n : ℕ = length h.members in
    let position : ℕ = t.position in
    let q : ℕ = parent_of t.member in
    let own_ctx : h.ctx ≡ t.ctx = are.own_ctx t.ctx h known in
    let base : ℕ → Stage = stages h.ctx position in
    let stage' : ℕ → Stage = came_up base t.member in
    let c : Collective gives s h position base = u.each t.ctx h position known in
    let rank_is : rank_in h q ≡ r = sym (ap (λ x. x.to) cu.is) in
    let q_within : q < n = omega (arith, parent_less t.member cu.sender_some, cu.sender_within) in
    let same : w.sweep.joined ≡ (s.sweeps r).joined = ap (λ x. x.sweep.joined) k.is in
    let tree_is : w.sweep.tree ≡ put_message t (s.sweeps r).tree = ap (λ x. x.sweep.tree) k.is in
    let sends_none : w.out.sends ≡ [] = ap (λ x. x.out.sends) k.is in
    let V : Went → Type 0 = λ x. LeavesOthers t.ctx position (s.sweeps r).tree x in
    let s2 : System = record { sweeps = with_sweep r w.sweep s.sweeps; bag = (before ++ after) ++ parcels_by g w.out.sends; who = s.who } in
    let bag_is : (before ++ after) ++ parcels_by g w.out.sends ≡ before ++ after =
    ap (λ x. (before ++ after) ++ parcels_by g x) sends_none ∙ (ap (λ x. (before ++ after) ++ x) (no_bag g) ∙ append-nil (before ++ after)) in
    let done_same : (i : ℕ) → is_done (stage' i) ≡ is_done (stages t.ctx position i) = λ i. cu.same_done i ∙ ap (λ x. is_done (stages x position i)) own_ctx in
    let not_in : s.who h.ctx position q ≡ true → ⊥ =
    λ has.
    let one = has_some (gives h.ctx position q) (ap (λ y. is_some (gives y position q)) own_ctx ∙ all.each t.ctx h position q known q_within) in
    let not_done : is_done (base q) ≡ false = sym (cu.same_done q) ∙ apart_not_done (stage' q) cu.apart in
    let call = c.calls q one.0 q_within has not_done one.1 in
    let joined_r : (s.sweeps r).joined ≡ Some (record { ctx = h.ctx; position = position; arg = one.0; gathered = None }) = ap (λ x. (s.sweeps x).joined) (sym rank_is) ∙ call in
    let has_g : is_some g ≡ true = may.has (record { ctx = h.ctx; position = position; arg = one.0; gathered = None }) joined_r own_ctx in
    let group = some_group g has_g in
    true≢false (sym (awaits_call h.ctx position one.0 t own_ctx refl) ∙ k.not_awaited group.0 (record { ctx = h.ctx; position = position; arg = one.0; gathered = None }) group.1 joined_r) in
    let this_h : Collective gives s2 h position stage' = record {
      fits = cu.fits;
      waits = λ i within. elim (cases_eq i q) [
        | inr other ↦ cu.others_wait i within other
        | inl e ↦ λ apart has. absurd (not_in (ap (s.who h.ctx position) (sym e) ∙ has))
      ];
      messages = same_messages h.ctx position n (rank_in h) (gives h.ctx position) stage' (with_tree q (put_message t (s.sweeps (rank_in h q)).tree) (λ i. (s.sweeps (rank_in h i)).tree))
          (λ i. (with_sweep r w.sweep s.sweeps (rank_in h i)).tree) (before ++ after) ((before ++ after) ++ parcels_by g w.out.sends) cu.messages
          (λ i within. ap (filter (is_up_of h.ctx position)) (elim (cases_eq i q) [
            | inl e ↦
                ap (λ x. (with_sweep r w.sweep s.sweeps (rank_in h x)).tree) e ∙ (ap (λ x. (with_sweep r w.sweep s.sweeps x).tree) rank_is ∙ (ap (λ x. x.tree) (with_sweep-same r w.sweep s.sweeps)
                ∙ (tree_is ∙ (ap (λ x. put_message t (s.sweeps x).tree) (sym rank_is) ∙ sym (ap (with_tree q (put_message t (s.sweeps (rank_in h q)).tree) (λ i. (s.sweeps (rank_in h i)).tree)) e
                ∙ with_tree-same q (put_message t (s.sweeps (rank_in h q)).tree) (λ i. (s.sweeps (rank_in h i)).tree))))))
            | inr other ↦
                ap (λ x. x.tree) (with_sweep-other r w.sweep s.sweeps (rank_in h i) (λ e. other (are.distinct t.ctx h known i q within q_within (e ∙ sym rank_is))))
                ∙ sym (with_tree-other q (put_message t (s.sweeps (rank_in h q)).tree) (λ i. (s.sweeps (rank_in h i)).tree) i other)
          ]))
          (λ i. ap (filter (goes_up_from h.ctx position i)) bag_is) (λ x. ap (filter (goes_down_to h.ctx position x)) bag_is);
      calls = λ i a within has not_done gave.
          let was = c.calls i a within has (sym (cu.same_done i) ∙ not_done) gave in
          elim (cases_eq (rank_in h i) r) [
            | inl e ↦ ap (λ x. (with_sweep r w.sweep s.sweeps x).joined) e ∙ (ap (λ x. x.joined) (with_sweep-same r w.sweep s.sweeps) ∙ (same ∙ (ap (λ x. (s.sweeps x).joined) (sym e) ∙ was)))
            | inr other ↦ ap (λ x. x.joined) (with_sweep-other r w.sweep s.sweeps (rank_in h i) other) ∙ was
          ];
    } in
    let C : Group → Type 0 = λ x. Collective gives s2 x position stage' in
    record {
      stage' = stage';
      this = λ x e. let q' : Some h ≡ Some x = sym known ∙ e in let h_is : h ≡ x = cc in subst C h_is this_h;
      leaves = subst V (sym k.is) (kept_leaves (s.sweeps r).joined (s.sweeps r).tree t (ap (λ x. x.message.direction) cu.is) not_held);
      keeps = λ j apart e. same ∙ e;
      own = λ j e. call_same groups gives s s2 stages t.ctx position stage' r j (u.own r j (sym same ∙ e)) (λ x y z b. b) done_same;
      others = λ x j other e. call_same groups gives s s2 stages t.ctx position stage' x j (u.own x j e) (λ x' y z b. b) done_same;
    }
  where
    apart_not_done : (x : Stage) → is_apart x ≡ true → is_done x ≡ false
    apart_not_done x e = ap is_done (is_it_apart x e)

    some_group : (o : Option Group) → is_some o ≡ true → (x : Group) × (o ≡ Some x)
    some_group None e = absurd (false≢true e)
    some_group (Some x) e = (x, refl)
