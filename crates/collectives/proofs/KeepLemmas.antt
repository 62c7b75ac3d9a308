-- A message that arrives keeps all collectives under way: the awaited ones, and all together.
use Rattle.std.proofs.Common.{ℕ, zero, suc, ◌≡◌, ◌≢◌, ◌<◌, ◌≤◌, inl, inr, List, ◌∷◌, ◌++◌, Bool, true, false, ◌&&◌, Option, Some, None, length, refl, sym, subst, ap, ◌∙◌, arith}
use Rattle.std.specs.Prelude.{nat_eq, is_some, not, All}
use Rattle.std.proofs.lemmas.Bool.{cases_Bool, cases_lt, and_from, eq-eqb, true≢false, false≢true, cond-true}
use Rattle.mpi_types.specs.declared.argument.Joined.{Joined}
use Rattle.mpi_types.specs.declared.argument.TreeMsg.{TreeMsg}
use Rattle.mpi_types.specs.declared.context.Level.{Level}
use Rattle.mpi_types.specs.declared.group.Group.{Group}
use Rattle.mpi_types.specs.Accepts.{is_same_ctx}
use Rattle.mpi_types.proofs.AcceptLemmas.{contexts_tell}
use Rattle.collectives.specs.declared.sends.TreeSend.{TreeSend}
use Rattle.collectives.specs.Tree.{parent_of}
use Rattle.collectives.specs.Held.{are_from, is_up, is_up_of, put_message}
use Rattle.collectives.specs.Sends.{down_sends}
use Rattle.collectives.specs.Sweeps.{Went, looked, closed}
use Rattle.collectives.specs.Slices.{Given, all_of}
use Rattle.collectives.specs.Stages.{Stage, is_apart, is_falling, is_done}
use Rattle.collectives.specs.System.{Parcel, StagesFit, MessagesAre, is_down_of}
use Rattle.collectives.specs.Underway.{Groups, rank_in, AreGroups, Gives, AllGive, System, is_collective, with_sweep, Collective, IsCall, UnderwayAt, Underway}
use Rattle.collectives.proofs.TreeLemmas.{parent_less}
use Rattle.collectives.proofs.LookLemmas.{is_it_apart, Looks, Looked, look, with_tree, with_tree-same, with_tree-other, parcels}
use Rattle.mpi_types.specs.declared.argument.Direction.{Direction}
use Rattle.mpi_types.specs.declared.argument.Direction.TheVariants.{Up, Down}
use Rattle.collectives.specs.Stages.{came_up}
use Rattle.collectives.specs.Sweeps.{awaits, kept, goes_on, closed_by, IsNotHeld}
use Rattle.collectives.specs.Underway.{MayArrive, went_at_arrival, parcels_by, after_arrival}
use Rattle.collectives.proofs.ChainLemmas.{has_some}
use Rattle.collectives.proofs.ComeLemmas.{CameUp, comes_up}
use Rattle.collectives.proofs.FallLemmas.{FallsTo, falls_to, falls, all_whole}
use Rattle.collectives.proofs.SystemLemmas.{LeavesOthers, looked_leaves, closed_leaves}
use Rattle.collectives.proofs.JoinLemmas.{with_stages, this_collective, call_at, own_call}
use Rattle.collectives.proofs.ArriveLemmas.{IsKept, arrived_cases, awaited_is, none_is, awaits_call, Outcome, from_outcome}
use Rattle.collectives.proofs.OutcomeLemmas.{option_cases, kept_leaves, kept_outcome}
use Rattle.collectives.specs.Stages.{may_be_below, Fit}
use Rattle.collectives.specs.Stages.Stage.{Apart, Rising, Held, Passed, Falling, Done}
use Rattle.collectives.specs.Underway.{GathersAll, IsKnown}
use Rattle.collectives.proofs.KeyLemmas.{all_taken, not_held_at, the_group}
use Rattle.collectives.proofs.StageLemmas.{not_apart_below}

awaited_outcome : (groups : Groups) (gives : Gives) (s : System) (stages : List Level → ℕ → ℕ → Stage) (before : List Parcel) (p : Parcel) (after : List Parcel) (w : Went) (h : Group) (j : Joined) (base : ℕ → Stage) (trees : ℕ → List TreeMsg)
    → AreGroups groups → UnderwayAt groups gives s stages → groups p.message.ctx ≡ Some h
    → (s.sweeps p.to).joined ≡ Some j → j.ctx ≡ h.ctx → j.position ≡ p.message.position → j.gathered ≡ None → j.arg.member < length h.members → gives h.ctx p.message.position j.arg.member ≡ Some j.arg
    → rank_in h j.arg.member ≡ p.to → s.who h.ctx p.message.position j.arg.member ≡ true
    → ((k : ℕ) → is_done (base k) ≡ is_done (stages h.ctx p.message.position k))
    → ((k : ℕ) → k < length h.members → k ≢ j.arg.member → trees k ≡ (s.sweeps (rank_in h k)).tree)
    → Looked h.ctx p.message.position (length h.members) (rank_in h) (gives h.ctx p.message.position) (s.who h.ctx p.message.position) base trees (before ++ after) j w
    → LeavesOthers p.message.ctx p.message.position (s.sweeps p.to).tree w
    → Outcome groups gives s (record { sweeps = with_sweep p.to w.sweep s.sweeps; bag = (before ++ after) ++ parcels_by (Some h) w.out.sends; who = s.who }) stages p.to p.message w
awaited_outcome groups gives s stages before p after w h j base trees are u known joined e_ctx e_position e_none within gave rank_is has base_same same_trees l leaves =
    let t : TreeMsg = p.message in
    let r : ℕ = p.to in
    let n : ℕ = length h.members in
    let m : ℕ = j.arg.member in
    let position : ℕ = t.position in
    let own_ctx : h.ctx ≡ t.ctx = are.own_ctx t.ctx h known in
    let known_h : groups h.ctx ≡ Some h = ap groups own_ctx ∙ known in
    let c : Collective gives s h position (stages h.ctx position) = u.each t.ctx h position known in
    let s2 : System = record { sweeps = with_sweep r w.sweep s.sweeps; bag = (before ++ after) ++ parcels_by (Some h) w.out.sends; who = s.who } in
    let this_m = this_collective gives s h position base j w (before ++ after) s.who trees l e_ctx e_position e_none within gave (are.distinct t.ctx h known) same_trees
    (λ i a inside other who_i not_done gave_i. c.calls i a inside who_i (sym (base_same i) ∙ not_done) gave_i) in
    let R : ℕ → Type 0 = λ x. Collective gives (record { sweeps = with_sweep x w.sweep s.sweeps; bag = (before ++ after) ++ parcels (rank_in h) w.out.sends; who = s.who }) h position l.stage' in
    let this_h : Collective gives s2 h position l.stage' = subst R rank_is this_m in
    let C : Group → Type 0 = λ x. Collective gives s2 x position l.stage' in
    record {
      stage' = l.stage';
      this = λ x e. let q' : Some h ≡ Some x = sym known ∙ e in let h_is : h ≡ x = cc in subst C h_is this_h;
      leaves = leaves;
      keeps = λ j' apart e.
          let q' : Some j ≡ Some j' = sym joined ∙ e in
          let j_is : j ≡ j' = cc in
          let of_t : is_collective t.ctx position j'.ctx j'.position ≡ true =
          and_from (is_same_ctx j'.ctx t.ctx) (nat_eq j'.position position) ((contexts_tell j'.ctx t.ctx).1 (ap (λ x. x.ctx) (sym j_is) ∙ (e_ctx ∙ own_ctx))) (eq-eqb j'.position position (ap (λ x. x.position) (sym j_is) ∙ e_position)) in
          absurd (true≢false (sym of_t ∙ apart));
      own = λ j' e.
          let T : List Level → Type 0 = λ x. IsCall groups gives s2 (with_stages x position l.stage' stages) r j' in
          let Q : ℕ → Type 0 = λ x. IsCall groups gives s2 (with_stages h.ctx position l.stage' stages) x j' in
          subst T own_ctx (subst Q rank_is (own_call groups gives s2 stages h position l.stage' j j' w (all_of n (gives h.ctx position)) known_h e_ctx e_position e_none within gave has l.done l.not_gathered l.gathered e refl));
      others = λ q j' other e.
          let T : List Level → Type 0 = λ x. IsCall groups gives s2 (with_stages x position l.stage' stages) q j' in
          subst T own_ctx (call_at groups gives s s2 stages h position l.stage' m q j' are known_h within (λ x. other (x ∙ rank_is)) (u.own q j' e) (λ x y z b. b)
          (λ k inside differs. l.others_done k inside differs ∙ base_same k));
    }

-- the member of the group that has joined at a rank
pub own_member : (groups : Groups) (gives : Gives) (s : System) (stages : List Level → ℕ → ℕ → Stage) (r : ℕ) (j : Joined) (h : Group) → IsCall groups gives s stages r j → groups h.ctx ≡ Some h → j.ctx ≡ h.ctx
    → (j.arg.member < length h.members) × (rank_in h j.arg.member ≡ r)
own_member groups gives s stages r j h call known e_ctx =
    let q : Some call.group ≡ Some h = sym call.known ∙ (ap groups e_ctx ∙ known) in
    let is : call.group ≡ h = cc in
    let P : Group → Type 0 = λ x. (j.arg.member < length x.members) × (rank_in x j.arg.member ≡ r) in
    subst P is (call.member, call.rank)

up_outcome : (groups : Groups) (gives : Gives) (s : System) (stages : List Level → ℕ → ℕ → Stage) (before : List Parcel) (p : Parcel) (after : List Parcel) (w : Went) (h : Group) (j : Joined)
    → AreGroups groups → AllGive groups gives → UnderwayAt groups gives s stages → groups p.message.ctx ≡ Some h → IsNotHeld p.message (s.sweeps p.to).tree
    → (s.sweeps p.to).joined ≡ Some j → awaits j p.message ≡ true → w ≡ looked (length h.members) j (put_message p.message (s.sweeps p.to).tree)
    → CameUp h.ctx p.message.position (length h.members) (rank_in h) (gives h.ctx p.message.position) (s.who h.ctx p.message.position) (stages h.ctx p.message.position) (λ i. (s.sweeps (rank_in h i)).tree) (before ++ after) p
    → Outcome groups gives s (record { sweeps = with_sweep p.to w.sweep s.sweeps; bag = (before ++ after) ++ parcels_by (Some h) w.out.sends; who = s.who }) stages p.to p.message w
up_outcome groups gives s stages before p after w h j are all u known not_held joined awaited w_is cu =
    let t : TreeMsg = p.message in
    let r : ℕ = p.to in
    let n : ℕ = length h.members in
    let m : ℕ = j.arg.member in
    let q : ℕ = parent_of t.member in
    let position : ℕ = t.position in
    let own_ctx : h.ctx ≡ t.ctx = are.own_ctx t.ctx h known in
    let known_h : groups h.ctx ≡ Some h = ap groups own_ctx ∙ known in
    let parts = awaited_is j t awaited in
    let e_ctx : j.ctx ≡ h.ctx = parts.0 ∙ sym own_ctx in
    let e_position : j.position ≡ position = parts.1.0 in
    let e_none : j.gathered ≡ None = none_is j.gathered parts.1.1 in
    let call : IsCall groups gives s stages r j = u.own r j joined in
    let at = own_member groups gives s stages r j h call known_h e_ctx in
    let q_within : q < n = omega (arith, parent_less t.member cu.sender_some, cu.sender_within) in
    let q_rank : rank_in h q ≡ r = sym (ap (λ x. x.to) cu.is) in
    let m_is : m ≡ q = are.distinct t.ctx h known m q at.0 q_within (at.1 ∙ sym q_rank) in
    let gave : gives h.ctx position m ≡ Some j.arg = ap (λ x. gives x position m) (sym e_ctx) ∙ (ap (λ x. gives j.ctx x m) (sym e_position) ∙ call.gave) in
    let has : s.who h.ctx position m ≡ true = ap (λ x. s.who x position m) (sym e_ctx) ∙ (ap (λ x. s.who j.ctx x m) (sym e_position) ∙ call.has_joined) in
    let base : ℕ → Stage = came_up (stages h.ctx position) t.member in
    let put : List TreeMsg = put_message t (s.sweeps (rank_in h q)).tree in
    let trees : ℕ → List TreeMsg = with_tree q put (λ i. (s.sweeps (rank_in h i)).tree) in
    let looks : Looks h.ctx position n (rank_in h) (gives h.ctx position) (s.who h.ctx position) base trees (before ++ after) j = record {
      ctx_is = e_ctx;
      position_is = e_position;
      room = are.room t.ctx h known;
      within = at.0;
      distinct = are.distinct t.ctx h known;
      own = gave;
      numbered = all.numbered h.ctx position;
      all_give = λ i inside. all.each h.ctx h position i known_h inside;
      has_joined = has;
      apart = ap (λ x. is_apart (base x)) m_is ∙ cu.apart;
      fits = cu.fits;
      others_wait = λ k inside other. cu.others_wait k inside (λ e. other (e ∙ sym m_is));
      messages = cu.messages;
    } in
    let tree_is : trees m ≡ put_message t (s.sweeps r).tree =
    ap trees m_is ∙ (with_tree-same q put (λ i. (s.sweeps (rank_in h i)).tree) ∙ ap (λ x. put_message t (s.sweeps x).tree) q_rank) in
    let W : Went → Type 0 = λ x. Looked h.ctx position n (rank_in h) (gives h.ctx position) (s.who h.ctx position) base trees (before ++ after) j x in
    let l : W w = subst W (ap (looked n j) tree_is ∙ sym w_is) (look h.ctx position n (rank_in h) (gives h.ctx position) (s.who h.ctx position) base trees (before ++ after) j looks) in
    let after_put = looked_leaves n j (put_message t (s.sweeps r).tree) in
    let first = kept_leaves (s.sweeps r).joined (s.sweeps r).tree t (ap (λ x. x.message.direction) cu.is) not_held in
    let V : Went → Type 0 = λ x. LeavesOthers t.ctx position (s.sweeps r).tree x in
    let X : List Level → Type 0 = λ x. All (λ (y : TreeSend). (y.message.ctx ≡ x) × (y.message.position ≡ j.position)) (looked n j (put_message t (s.sweeps r).tree)).out.sends in
    let Y : ℕ → Type 0 = λ x. All (λ (y : TreeSend). (y.message.ctx ≡ t.ctx) × (y.message.position ≡ x)) (looked n j (put_message t (s.sweeps r).tree)).out.sends in
    let leaves : V w = subst V (sym w_is) (record {
      kept = λ c x apart. after_put.kept c x (ap (λ y. is_collective y j.position c x) parts.0 ∙ (ap (λ y. is_collective t.ctx y c x) e_position ∙ apart)) ∙ first.kept c x apart;
      sent = subst Y e_position (subst X parts.0 after_put.sent);
      ordered = λ o. after_put.ordered (first.ordered o);
      only_up = λ o. after_put.only_up (first.only_up o);
    }) in
    awaited_outcome groups gives s stages before p after w h j base trees are u known joined e_ctx e_position e_none at.0 gave at.1 has cu.same_done
    (λ k inside other. with_tree-other q put (λ i. (s.sweeps (rank_in h i)).tree) k (λ e. other (e ∙ sym m_is))) l leaves

down_outcome : (groups : Groups) (gives : Gives) (s : System) (stages : List Level → ℕ → ℕ → Stage) (before : List Parcel) (p : Parcel) (after : List Parcel) (w : Went) (h : Group) (j : Joined) (i : ℕ)
    → AreGroups groups → AllGive groups gives → UnderwayAt groups gives s stages → groups p.message.ctx ≡ Some h
    → (s.sweeps p.to).joined ≡ Some j → awaits j p.message ≡ true → w ≡ closed_by (length h.members) j (s.sweeps p.to).tree p.message
    → MessagesAre h.ctx p.message.position (length h.members) (rank_in h) (gives h.ctx p.message.position) (stages h.ctx p.message.position) (λ k. (s.sweeps (rank_in h k)).tree) (before ++ p ∷ after)
    → is_down_of h.ctx p.message.position p.message ≡ true
    → FallsTo h.ctx p.message.position (length h.members) (rank_in h) (gives h.ctx p.message.position) (stages h.ctx p.message.position) before after p i
    → Outcome groups gives s (record { sweeps = with_sweep p.to w.sweep s.sweeps; bag = (before ++ after) ++ parcels_by (Some h) w.out.sends; who = s.who }) stages p.to p.message w
down_outcome groups gives s stages before p after w h j i are all u known joined awaited w_is messages down ft =
    let t : TreeMsg = p.message in
    let r : ℕ = p.to in
    let n : ℕ = length h.members in
    let m : ℕ = j.arg.member in
    let position : ℕ = t.position in
    let given : Given = gives h.ctx position in
    let own_ctx : h.ctx ≡ t.ctx = are.own_ctx t.ctx h known in
    let known_h : groups h.ctx ≡ Some h = ap groups own_ctx ∙ known in
    let parts = awaited_is j t awaited in
    let e_ctx : j.ctx ≡ h.ctx = parts.0 ∙ sym own_ctx in
    let e_position : j.position ≡ position = parts.1.0 in
    let e_none : j.gathered ≡ None = none_is j.gathered parts.1.1 in
    let call : IsCall groups gives s stages r j = u.own r j joined in
    let at = own_member groups gives s stages r j h call known_h e_ctx in
    let c : Collective gives s h position (stages h.ctx position) = u.each t.ctx h position known in
    let m_is : i ≡ m = are.distinct t.ctx h known i m ft.within at.0 (ft.rank_is ∙ sym at.1) in
    let gave : given m ≡ Some j.arg = ap (λ x. gives x position m) (sym e_ctx) ∙ (ap (λ x. gives j.ctx x m) (sym e_position) ∙ call.gave) in
    let has : s.who h.ctx position m ≡ true = ap (λ x. s.who x position m) (sym e_ctx) ∙ (ap (λ x. s.who j.ctx x m) (sym e_position) ∙ call.has_joined) in
    let trees : ℕ → List TreeMsg = λ k. (s.sweeps (rank_in h k)).tree in
    let F : ℕ → Type 0 = λ x. FallsTo h.ctx position n (rank_in h) given (stages h.ctx position) before after p x in
    let args_are : t.args ≡ all_of n given = ap (λ x. x.message.args) ft.is in
    let whole : are_from 0 n t.args ≡ true = ap (are_from 0 n) args_are ∙ all_whole n given (all.numbered h.ctx position) (λ k inside. all.each h.ctx h position k known_h inside) in
    let closed_is : w ≡ closed n j (all_of n given) (trees m) =
    w_is ∙ (cond-true (are_from 0 n t.args) (closed n j t.args (s.sweeps r).tree) (kept (Some j) (s.sweeps r).tree t) whole
    ∙ (ap (λ x. closed n j x (s.sweeps r).tree) args_are ∙ ap (λ x. closed n j (all_of n given) (s.sweeps x).tree) (sym at.1))) in
    let W : Went → Type 0 = λ x. Looked h.ctx position n (rank_in h) given (s.who h.ctx position) (stages h.ctx position) trees (before ++ after) j x in
    let l : W w = subst W (sym closed_is) (falls h.ctx position n (rank_in h) given (s.who h.ctx position) (stages h.ctx position) trees before p after j (are.room t.ctx h known) (are.distinct t.ctx h known) c.fits c.waits messages down
    (subst F m_is ft) e_ctx e_position) in
    let after_close = closed_leaves n j (all_of n given) (s.sweeps r).tree in
    let V : Went → Type 0 = λ x. LeavesOthers t.ctx position (s.sweeps r).tree x in
    let X : List Level → Type 0 = λ x. All (λ (y : TreeSend). (y.message.ctx ≡ x) × (y.message.position ≡ j.position)) (down_sends n j (all_of n given)) in
    let Y : ℕ → Type 0 = λ x. All (λ (y : TreeSend). (y.message.ctx ≡ t.ctx) × (y.message.position ≡ x)) (down_sends n j (all_of n given)) in
    let leaves : V w = subst V (sym (closed_is ∙ ap (λ x. closed n j (all_of n given) (s.sweeps x).tree) at.1)) (record {
      kept = λ cc' x apart. refl;
      sent = subst Y e_position (subst X parts.0 after_close.sent);
      ordered = λ o. o;
      only_up = λ o. o;
    }) in
    awaited_outcome groups gives s stages before p after w h j (stages h.ctx position) trees are u known joined e_ctx e_position e_none at.0 gave at.1 has (λ k. refl) (λ k inside other. refl) l leaves

is_it_up : (d : Direction) → is_up d ≡ true → d ≡ Up
is_it_up Up e = refl
is_it_up Down e = absurd (false≢true e)

is_it_down : (d : Direction) → is_up d ≡ false → d ≡ Down
is_it_down Down e = refl
is_it_down Up e = absurd (true≢false e)

-- the list is always awaited
down_awaited : (groups : Groups) (gives : Gives) (s : System) (stages : List Level → ℕ → ℕ → Stage) (before : List Parcel) (p : Parcel) (after : List Parcel) (g : Option Group) (w : Went) (h : Group) (i : ℕ)
    → AreGroups groups → AllGive groups gives → UnderwayAt groups gives s stages → groups p.message.ctx ≡ Some h → MayArrive groups s before p after g
    → FallsTo h.ctx p.message.position (length h.members) (rank_in h) (gives h.ctx p.message.position) (stages h.ctx p.message.position) before after p i → IsKept g (s.sweeps p.to) p.message w → ⊥
down_awaited groups gives s stages before p after g w h i are all u known may ft k =
    let t : TreeMsg = p.message in
    let position : ℕ = t.position in
    let own_ctx : h.ctx ≡ t.ctx = are.own_ctx t.ctx h known in
    let known_h : groups h.ctx ≡ Some h = ap groups own_ctx ∙ known in
    let c : Collective gives s h position (stages h.ctx position) = u.each t.ctx h position known in
    let has : s.who h.ctx position i ≡ true = c.fits.joined i ft.within (ap is_apart ft.was) in
    let one = has_some (gives h.ctx position i) (all.each h.ctx h position i known_h ft.within) in
    let call = c.calls i one.0 ft.within has (ap is_done ft.was) one.1 in
    let joined : (s.sweeps p.to).joined ≡ Some (record { ctx = h.ctx; position = position; arg = one.0; gathered = None }) = ap (λ x. (s.sweeps x).joined) (sym ft.rank_is) ∙ call in
    let group = the_group g (may.has (record { ctx = h.ctx; position = position; arg = one.0; gathered = None }) joined own_ctx) in
    true≢false (sym (awaits_call h.ctx position one.0 t own_ctx refl) ∙ k.not_awaited group.0 (record { ctx = h.ctx; position = position; arg = one.0; gathered = None }) group.1 joined)

arrival_outcome : (groups : Groups) (gives : Gives) (s : System) (stages : List Level → ℕ → ℕ → Stage) (before : List Parcel) (p : Parcel) (after : List Parcel) (g : Option Group) → AreGroups groups → AllGive groups gives → UnderwayAt groups gives s stages
    → MayArrive groups s before p after g → Outcome groups gives s (after_arrival s before p after g) stages p.to p.message (went_at_arrival s p g)
arrival_outcome groups gives s stages before p after g are all u may =
    let t : TreeMsg = p.message in
    let position : ℕ = t.position in
    let w : Went = went_at_arrival s p g in
    let cases = arrived_cases g (s.sweeps p.to) t in
    let not_held : IsNotHeld t (s.sweeps p.to).tree = not_held_at groups gives s stages before p after are u may.there in
    elim (option_cases (groups t.ctx)) [
      | inl none ↦
          let B : List Parcel → Type 0 = λ x. All (IsKnown groups) x in
          absurd (false≢true (sym (ap is_some none) ∙ (all_taken (IsKnown groups) before p after (subst B may.there u.known)).0))
      | inr found ↦
          let h : Group = found.0 in
          let known : groups t.ctx ≡ Some h = found.1 in
          let n : ℕ = length h.members in
          let own_ctx : h.ctx ≡ t.ctx = are.own_ctx t.ctx h known in
          let c : Collective gives s h position (stages h.ctx position) = u.each t.ctx h position known in
          let M : List Parcel → Type 0 = λ x. MessagesAre h.ctx position n (rank_in h) (gives h.ctx position) (stages h.ctx position) (λ i. (s.sweeps (rank_in h i)).tree) x in
          let messages : M (before ++ p ∷ after) = subst M may.there c.messages in
          let place : (is_same_ctx t.ctx h.ctx && nat_eq t.position position) ≡ true = and_from (is_same_ctx t.ctx h.ctx) (nat_eq t.position position) ((contexts_tell t.ctx h.ctx).1 (sym own_ctx)) (eq-eqb t.position position refl) in
          let P : Option Group → Type 0 = λ x. Outcome groups gives s (record { sweeps = with_sweep p.to w.sweep s.sweeps; bag = (before ++ after) ++ parcels_by x w.out.sends; who = s.who }) stages p.to t w in
          elim (cases_Bool (is_up t.direction)) [
            | inl up ↦
                let goes : is_up_of h.ctx position t ≡ true = and_from (is_same_ctx t.ctx h.ctx && nat_eq t.position position) (is_up t.direction) place up in
                let cu = comes_up h.ctx position n (rank_in h) (gives h.ctx position) (s.who h.ctx position) (stages h.ctx position) (λ i. (s.sweeps (rank_in h i)).tree) before p after (are.room t.ctx h known) c.fits c.waits messages goes
                (λ k inside. u.ordered (rank_in h k)) in
                elim cases [
                  | inl k ↦ kept_outcome groups gives s stages before p after g w h are all u may known not_held k cu
                  | inr a ↦
                      let q : Some a.group ≡ Some h = sym (may.known a.group a.group_is) ∙ known in
                      let group_is : a.group ≡ h = cc in
                      let g_is : g ≡ Some h = a.group_is ∙ ap Some group_is in
                      let w_is : w ≡ looked n a.j (put_message t (s.sweeps p.to).tree) =
                      a.is ∙ (ap (λ d. goes_on d (length a.group.members) a.j (s.sweeps p.to).tree t) (is_it_up t.direction up) ∙ ap (λ x. looked (length x.members) a.j (put_message t (s.sweeps p.to).tree)) group_is) in
                      subst P (sym g_is) (up_outcome groups gives s stages before p after w h a.j are all u known not_held a.joined_is a.awaited w_is cu)
                ]
            | inr down ↦
                let goes : is_down_of h.ctx position t ≡ true = and_from (is_same_ctx t.ctx h.ctx && nat_eq t.position position) (not (is_up t.direction)) place (ap not down) in
                let ft = falls_to h.ctx position n (rank_in h) (gives h.ctx position) (s.who h.ctx position) (stages h.ctx position) (λ i. (s.sweeps (rank_in h i)).tree) before p after c.fits messages goes in
                elim cases [
                  | inl k ↦ absurd (down_awaited groups gives s stages before p after g w h ft.0 are all u known may ft.1 k)
                  | inr a ↦
                      let q : Some a.group ≡ Some h = sym (may.known a.group a.group_is) ∙ known in
                      let group_is : a.group ≡ h = cc in
                      let g_is : g ≡ Some h = a.group_is ∙ ap Some group_is in
                      let w_is : w ≡ closed_by n a.j (s.sweeps p.to).tree t =
                      a.is ∙ (ap (λ d. goes_on d (length a.group.members) a.j (s.sweeps p.to).tree t) (is_it_down t.direction down) ∙ ap (λ x. closed_by (length x.members) a.j (s.sweeps p.to).tree t) group_is) in
                      subst P (sym g_is) (down_outcome groups gives s stages before p after w h a.j ft.0 are all u known a.joined_is a.awaited w_is messages goes ft.1)
                ]
          ]
    ]

-- all collectives go on under way when a message arrives
pub arrival_keeps : (groups : Groups) (gives : Gives) (s : System) (before : List Parcel) (p : Parcel) (after : List Parcel) (g : Option Group) → AreGroups groups → AllGive groups gives → Underway groups gives s → MayArrive groups s before p after g
    → Underway groups gives (after_arrival s before p after g)
arrival_keeps groups gives s before p after g are all under may =
    from_outcome groups gives s under.stages before p after g are under.at may (arrival_outcome groups gives s under.stages before p after g are all under.at may)

pub arrival_not_held : (groups : Groups) (gives : Gives) (s : System) (before : List Parcel) (p : Parcel) (after : List Parcel) → AreGroups groups → Underway groups gives s → s.bag ≡ before ++ p ∷ after
    → IsNotHeld p.message (s.sweeps p.to).tree
arrival_not_held groups gives s before p after are under there = not_held_at groups gives s under.stages before p after are under.at there

-- below what isn't done nothing is, where the top isn't
top_apart : (p c : Stage) → may_be_below p c ≡ true → is_done p ≡ false → (is_falling p ≡ false) → (is_done c ≡ false) × (is_falling c ≡ false)
top_apart Done c h d f = absurd (true≢false d)
top_apart Falling c h d f = absurd (true≢false f)
top_apart p Apart h d f = (refl, refl)
top_apart p Rising h d f = (refl, refl)
top_apart p Held h d f = (refl, refl)
top_apart p Passed h d f = (refl, refl)
top_apart Apart Falling h d f = absurd (false≢true h)
top_apart Rising Falling h d f = absurd (false≢true h)
top_apart Held Falling h d f = absurd (false≢true h)
top_apart Passed Falling h d f = absurd (false≢true h)
top_apart Apart Done h d f = absurd (false≢true h)
top_apart Rising Done h d f = absurd (false≢true h)
top_apart Held Done h d f = absurd (false≢true h)
top_apart Passed Done h d f = absurd (false≢true h)

pub none_done : (f n k : ℕ) (stage : ℕ → Stage) → Fit n stage → is_apart (stage 0) ≡ true → k ≤ f → k < n → (is_done (stage k) ≡ false) × (is_falling (stage k) ≡ false)
none_done zero n k stage fit top low within = let e : k ≡ 0 = omega arith in let a : stage k ≡ Apart = ap stage e ∙ is_it_apart (stage 0) top in (ap is_done a, ap is_falling a)
none_done (suc f) n k stage fit top low within = elim (cases_lt 0 k) [
  | inr none ↦ let e : k ≡ 0 = omega arith in let a : stage k ≡ Apart = ap stage e ∙ is_it_apart (stage 0) top in (ap is_done a, ap is_falling a)
  | inl some ↦
      let less : parent_of k < k = parent_less k some in
      let above = none_done f n (parent_of k) stage fit top (omega arith) (omega arith) in
      top_apart (stage (parent_of k)) (stage k) (fit k some within) above.0 above.1
]

-- where one has gathered, all have joined
pub all_joined : (n : ℕ) (who : ℕ → Bool) (stage : ℕ → Stage) (k : ℕ) → n ≤ 65536 → StagesFit n who stage → k < n → is_done (stage k) ≡ true → (i : ℕ) → i < n → who i ≡ true
all_joined n who stage k room fits inside done i within = elim (cases_Bool (is_apart (stage 0))) [
  | inl top ↦ absurd (true≢false (sym done ∙ (none_done k n k stage fits.fit top (omega arith) inside).0))
  | inr top ↦ fits.joined i within (not_apart_below i n 0 i stage room fits.fit top (omega arith) (omega arith) within)
]

pub gathers_all : GathersAll
gathers_all groups gives s r j xs are under joined gathered =
    let u = under.at in
    let call = u.own r j joined in
    let h : Group = call.group in
    let own_ctx : h.ctx ≡ j.ctx = are.own_ctx j.ctx h call.known in
    let c : Collective gives s h j.position (under.stages h.ctx j.position) = u.each j.ctx h j.position call.known in
    let done : is_done (under.stages h.ctx j.position j.arg.member) ≡ true = ap (λ x. is_done (under.stages x j.position j.arg.member)) own_ctx ∙ (call.done ∙ ap is_some gathered) in
    let joined_all = all_joined (length h.members) (s.who h.ctx j.position) (under.stages h.ctx j.position) j.arg.member (are.room j.ctx h call.known) c.fits call.member done in
    (h, (call.known, (call.list xs gathered, λ i within. ap (λ x. s.who x j.position i) (sym own_ctx) ∙ joined_all i within)))
