-- A rank that joins a collective keeps all of them under way.
use Rattle.std.proofs.Common.{ℕ, ◌≡◌, ◌≢◌, ◌<◌, ◌⊎◌, inl, inr, List, ◌++◌, cond, Bool, true, false, Option, Some, None, length, refl, sym, subst, ap, ◌∙◌}
use Rattle.std.specs.Prelude.{nat_eq, is_some, All, filter}
use Rattle.std.proofs.lemmas.Bool.{cases_Bool, cases_eq, and_parts, and_from, eqb-true, eq-eqb, ne_eqb, true≢false, cond-true, cond-false}
use Rattle.std.proofs.lemmas.List.Elements.{All-append}
use Rattle.mpi_types.specs.declared.argument.Arg.{Arg}
use Rattle.mpi_types.specs.declared.argument.Joined.{Joined}
use Rattle.mpi_types.specs.declared.argument.Sweep.{Sweep}
use Rattle.mpi_types.specs.declared.argument.TreeMsg.{TreeMsg}
use Rattle.mpi_types.specs.declared.context.Level.{Level}
use Rattle.mpi_types.specs.declared.group.Group.{Group}
use Rattle.mpi_types.specs.Accepts.{is_same_ctx}
use Rattle.mpi_types.specs.Order.{IsTreeOrdered}
use Rattle.mpi_types.proofs.AcceptLemmas.{contexts_tell}
use Rattle.collectives.specs.Held.{is_up_of}
use Rattle.collectives.specs.Sweeps.{Went, looked, with_list, joins}
use Rattle.collectives.specs.Slices.{all_of}
use Rattle.collectives.specs.Stages.{Stage, is_apart, is_done}
use Rattle.collectives.specs.System.{Parcel, StagesFit, Waits, goes_up_from, goes_down_to}
use Rattle.collectives.specs.Underway.{Groups, rank_in, AreGroups, Gives, AllGive, System, is_collective, with_joined, with_sweep, MayJoin, after_joining, Collective, IsCall, UnderwayAt, Underway, GoesUp, IsKnown, parcels_by}
use Rattle.collectives.proofs.BagLemmas.{filter_all_less}
use Rattle.collectives.proofs.KeyLemmas.{sent_known}
use Rattle.collectives.proofs.LookLemmas.{Looks, Looked, look, with_tree, with_tree-same, with_tree-other, parcels}
use Rattle.collectives.proofs.SystemLemmas.{LeavesOthers, looked_leaves, sent_up_none, sent_down_none, same_messages, trees_kept, with_sweep-same, with_sweep-other}

-- stages of all collectives, with those of one
abbrev pub with_stages : List Level → ℕ → (ℕ → Stage) → (List Level → ℕ → ℕ → Stage) → List Level → ℕ → ℕ → Stage
with_stages ctx position stage stages c p = cond (is_collective ctx position c p) stage (stages c p)

pub same_collective : (ctx : List Level) (position : ℕ) → is_collective ctx position ctx position ≡ true
same_collective ctx position = and_from (is_same_ctx ctx ctx) (nat_eq position position) ((contexts_tell ctx ctx).1 refl) (eq-eqb position position refl)

pub which_collective : (ctx : List Level) (position : ℕ) (c : List Level) (p : ℕ) → ((c ≡ ctx) × (p ≡ position)) ⊎ (is_collective ctx position c p ≡ false)
which_collective ctx position c p = elim (cases_Bool (is_collective ctx position c p)) [
  | inr f ↦ inr f
  | inl t ↦ let parts = and_parts (is_same_ctx c ctx) (nat_eq p position) t in inl ((contexts_tell c ctx).0 parts.0, eqb-true p position parts.1)
]

with_joined-same : (m : ℕ) (who : ℕ → Bool) → with_joined m who m ≡ true
with_joined-same m who = cond-true (nat_eq m m) true (who m) (eq-eqb m m refl)

with_joined-other : (m : ℕ) (who : ℕ → Bool) (k : ℕ) → k ≢ m → with_joined m who k ≡ who k
with_joined-other m who k other = cond-false (nat_eq k m) true (who k) (ne_eqb k m other)

with_joined-more : (m : ℕ) (who : ℕ → Bool) (k : ℕ) → who k ≡ true → with_joined m who k ≡ true
with_joined-more m who k h = elim (cases_Bool (nat_eq k m)) [ inl t ↦ rw t refl | inr f ↦ rw f h ]

-- the members of the collective, before the one that joins looks
pub joining_looks : (groups : Groups) (gives : Gives) (s : System) (stages : List Level → ℕ → ℕ → Stage) (g : Group) (position : ℕ) (a : Arg) → AreGroups groups → AllGive groups gives → UnderwayAt groups gives s stages
    → MayJoin groups gives s g position a
    → Looks g.ctx position (length g.members) (rank_in g) (gives g.ctx position) (with_joined a.member (s.who g.ctx position)) (stages g.ctx position) (λ i. (s.sweeps (rank_in g i)).tree) s.bag (joins g position a)
joining_looks groups gives s stages g position a are all u may =
    let n : ℕ = length g.members in
    let c : Collective gives s g position (stages g.ctx position) = u.each g.ctx g position may.known in
    let who : ℕ → Bool = s.who g.ctx position in
    record {
      ctx_is = refl;
      position_is = refl;
      room = are.room g.ctx g may.known;
      within = may.member;
      distinct = are.distinct g.ctx g may.known;
      own = may.gave;
      numbered = all.numbered g.ctx position;
      all_give = λ i within. all.each g.ctx g position i may.known within;
      has_joined = with_joined-same a.member who;
      apart = elim (cases_Bool (is_apart (stages g.ctx position a.member))) [
        | inl t ↦ t
        | inr f ↦ absurd (true≢false (sym (c.fits.joined a.member may.member f) ∙ may.first))
      ];
      fits = record {
        fit = c.fits.fit;
        top = c.fits.top;
        joined = λ k within not_apart. with_joined-more a.member who k (c.fits.joined k within not_apart);
      };
      others_wait = λ k within other apart has. c.waits k within apart (sym (with_joined-other a.member who k other) ∙ has);
      messages = c.messages;
    }

-- a collective of which nothing changes
pub other_collective : (gives : Gives) (s : System) (g : Group) (p : ℕ) (stage : ℕ → Stage) (ctx : List Level) (position : ℕ) (r : ℕ) (w : Went) (rank : ℕ → ℕ) (who : List Level → ℕ → ℕ → Bool) (old_bag : List Parcel)
    → Collective gives s g p stage → LeavesOthers ctx position (s.sweeps r).tree w → is_collective ctx position g.ctx p ≡ false → who g.ctx p ≡ s.who g.ctx p
    → ((i : ℕ) → filter (goes_up_from g.ctx p i) old_bag ≡ filter (goes_up_from g.ctx p i) s.bag) → ((q : ℕ) → filter (goes_down_to g.ctx p q) old_bag ≡ filter (goes_down_to g.ctx p q) s.bag)
    → ((j' : Joined) → j'.ctx ≡ g.ctx → j'.position ≡ p → (s.sweeps r).joined ≡ Some j' → w.sweep.joined ≡ Some j')
    → Collective gives (record { sweeps = with_sweep r w.sweep s.sweeps; bag = old_bag ++ parcels rank w.out.sends; who = who }) g p stage
other_collective gives s g p stage ctx position r w rank who old_bag c l apart same_who up down keeps =
    let n : ℕ = length g.members in
    let F : (ℕ → Bool) → Type 0 = λ x. StagesFit n x stage in
    let W : (ℕ → Bool) → Type 0 = λ x. (i : ℕ) → i < n → Waits n x stage i in
    record {
      fits = subst F (sym same_who) c.fits;
      waits = subst W (sym same_who) c.waits;
      messages = same_messages g.ctx p n (rank_in g) (gives g.ctx p) stage (λ i. (s.sweeps (rank_in g i)).tree) (λ i. (with_sweep r w.sweep s.sweeps (rank_in g i)).tree) s.bag (old_bag ++ parcels rank w.out.sends)
          c.messages (λ k within. trees_kept ctx position r s w g p k l apart)
          (λ i. filter_all_less (goes_up_from g.ctx p i) old_bag (parcels rank w.out.sends) (sent_up_none rank ctx position g.ctx p i w.out.sends apart l.sent) ∙ up i)
          (λ q. filter_all_less (goes_down_to g.ctx p q) old_bag (parcels rank w.out.sends) (sent_down_none rank ctx position g.ctx p q w.out.sends apart l.sent) ∙ down q);
      calls = λ i a within has not_done gave.
          let was = c.calls i a within (ap (λ f. f i) (sym same_who) ∙ has) not_done gave in
          elim (cases_eq (rank_in g i) r) [
            | inl e ↦ ap (λ q. (with_sweep r w.sweep s.sweeps q).joined) e ∙ (ap (λ x. x.joined) (with_sweep-same r w.sweep s.sweeps)
                ∙ keeps (record { ctx = g.ctx; position = p; arg = a; gathered = None }) refl refl (ap (λ q. (s.sweeps q).joined) (sym e) ∙ was))
            | inr other ↦ ap (λ x. x.joined) (with_sweep-other r w.sweep s.sweeps (rank_in g i) other) ∙ was
          ];
    }

-- the collective itself, after a call of one of its members at the rank of that member
pub this_collective : (gives : Gives) (s : System) (g : Group) (position : ℕ) (stage : ℕ → Stage) (j : Joined) (w : Went) (old_bag : List Parcel) (who : List Level → ℕ → ℕ → Bool) (trees : ℕ → List TreeMsg)
    (l : Looked g.ctx position (length g.members) (rank_in g) (gives g.ctx position) (who g.ctx position) stage trees old_bag j w)
    → j.ctx ≡ g.ctx → j.position ≡ position → j.gathered ≡ None → j.arg.member < length g.members → gives g.ctx position j.arg.member ≡ Some j.arg
    → ((x y : ℕ) → x < length g.members → y < length g.members → rank_in g x ≡ rank_in g y → x ≡ y)
    → ((k : ℕ) → k < length g.members → k ≢ j.arg.member → trees k ≡ (s.sweeps (rank_in g k)).tree)
    → ((i : ℕ) (a : Arg) → i < length g.members → i ≢ j.arg.member → who g.ctx position i ≡ true → is_done (stage i) ≡ false → gives g.ctx position i ≡ Some a
    → (s.sweeps (rank_in g i)).joined ≡ Some (record { ctx = g.ctx; position = position; arg = a; gathered = None }))
    → Collective gives (record { sweeps = with_sweep (rank_in g j.arg.member) w.sweep s.sweeps; bag = old_bag ++ parcels (rank_in g) w.out.sends; who = who }) g position l.stage'
this_collective gives s g position stage j w old_bag who trees l e_ctx e_position e_none within gave distinct same_trees calls =
    let n : ℕ = length g.members in
    let m : ℕ = j.arg.member in
    record {
      fits = l.fits;
      waits = l.waits;
      messages = same_messages g.ctx position n (rank_in g) (gives g.ctx position) l.stage' (with_tree m w.sweep.tree trees) (λ i. (with_sweep (rank_in g m) w.sweep s.sweeps (rank_in g i)).tree)
          (old_bag ++ parcels (rank_in g) w.out.sends) (old_bag ++ parcels (rank_in g) w.out.sends) l.messages
          (λ k inside. ap (filter (is_up_of g.ctx position)) (elim (cases_eq k m) [
            | inl e ↦ ap (λ x. (with_sweep (rank_in g m) w.sweep s.sweeps (rank_in g x)).tree) e ∙ (ap (λ x. x.tree) (with_sweep-same (rank_in g m) w.sweep s.sweeps)
                ∙ sym (ap (with_tree m w.sweep.tree trees) e ∙ with_tree-same m w.sweep.tree trees))
            | inr other ↦ ap (λ x. x.tree) (with_sweep-other (rank_in g m) w.sweep s.sweeps (rank_in g k) (λ h. other (distinct k m inside within h)))
                ∙ (sym (same_trees k inside other) ∙ sym (with_tree-other m w.sweep.tree trees k other))
          ]))
          (λ i. refl) (λ r. refl);
      calls = λ i a inside has not_done gave_i. elim (cases_eq i m) [
        | inl e ↦
            let not_gathered : w.out.gathered ≡ false = sym l.done ∙ (ap (λ x. is_done (l.stage' x)) (sym e) ∙ not_done) in
            let is_arg : j.arg ≡ a = let q : Some j.arg ≡ Some a = sym gave ∙ (ap (gives g.ctx position) (sym e) ∙ gave_i) in cc in
            let call : j ≡ record { ctx = g.ctx; position = position; arg = a; gathered = None } = joined_is j g.ctx position a e_ctx e_position is_arg e_none in
            ap (λ x. (with_sweep (rank_in g m) w.sweep s.sweeps (rank_in g x)).joined) e ∙ (ap (λ x. x.joined) (with_sweep-same (rank_in g m) w.sweep s.sweeps)
            ∙ (l.not_gathered not_gathered ∙ ap Some call))
        | inr other ↦
            ap (λ x. x.joined) (with_sweep-other (rank_in g m) w.sweep s.sweeps (rank_in g i) (λ h. other (distinct i m inside within h)))
            ∙ calls i a inside other has (sym (l.others_done i inside other) ∙ not_done) gave_i
      ];
    }
  where
    joined_is : (j : Joined) (ctx : List Level) (position : ℕ) (a : Arg) → j.ctx ≡ ctx → j.position ≡ position → j.arg ≡ a → j.gathered ≡ None → j ≡ record { ctx = ctx; position = position; arg = a; gathered = None }
    joined_is j ctx position a p q r t =
        let F : List Level → Joined = λ x. record { ctx = x; position = j.position; arg = j.arg; gathered = j.gathered } in
        let G : ℕ → Joined = λ x. record { ctx = ctx; position = x; arg = j.arg; gathered = j.gathered } in
        let H : Arg → Joined = λ x. record { ctx = ctx; position = position; arg = x; gathered = j.gathered } in
        let K : Option (List Arg) → Joined = λ x. record { ctx = ctx; position = position; arg = a; gathered = x } in
        ap F p ∙ (ap G q ∙ (ap H r ∙ ap K t))

-- who has joined, after one more has
who_same : (s : System) (g : Group) (position : ℕ) (a : Arg) → (after_joining s g position a).who g.ctx position ≡ with_joined a.member (s.who g.ctx position)
who_same s g position a = cond-true (is_collective g.ctx position g.ctx position) (with_joined a.member (s.who g.ctx position)) (s.who g.ctx position) (same_collective g.ctx position)

who_other : (s : System) (g : Group) (position : ℕ) (a : Arg) (c : List Level) (p : ℕ) → is_collective g.ctx position c p ≡ false → (after_joining s g position a).who c p ≡ s.who c p
who_other s g position a c p apart = cond-false (is_collective g.ctx position c p) (with_joined a.member (s.who c p)) (s.who c p) apart

-- what a rank has joined after a call of a member of the group
pub call_at : (groups : Groups) (gives : Gives) (s s2 : System) (stages : List Level → ℕ → ℕ → Stage) (g : Group) (position : ℕ) (stage' : ℕ → Stage) (m : ℕ) (r : ℕ) (j : Joined)
    → AreGroups groups → groups g.ctx ≡ Some g → m < length g.members → r ≢ rank_in g m → IsCall groups gives s stages r j
    → ((c : List Level) (p k : ℕ) → s.who c p k ≡ true → s2.who c p k ≡ true)
    → ((k : ℕ) → k < length g.members → k ≢ m → is_done (stage' k) ≡ is_done (stages g.ctx position k))
    → IsCall groups gives s2 (with_stages g.ctx position stage' stages) r j
call_at groups gives s s2 stages g position stage' m r j are known within other call more same = record {
  group = call.group;
  known = call.known;
  member = call.member;
  rank = call.rank;
  gave = call.gave;
  has_joined = more j.ctx j.position j.arg.member call.has_joined;
  list = call.list;
  done = elim (which_collective g.ctx position j.ctx j.position) [
    | inr apart ↦ ap (λ f. is_done (f j.arg.member)) (cond-false (is_collective g.ctx position j.ctx j.position) stage' (stages j.ctx j.position) apart) ∙ call.done
    | inl is ↦
        let groups_same : Some call.group ≡ Some g = sym call.known ∙ (ap groups is.0 ∙ known) in
        let group_is : call.group ≡ g = cc in
        let N : Group → Type 0 = λ x. j.arg.member < length x.members in
        let inside : j.arg.member < length g.members = subst N group_is call.member in
        let at_rank : rank_in g j.arg.member ≡ r = ap (λ x. rank_in x j.arg.member) (sym group_is) ∙ call.rank in
        let differs : j.arg.member ≢ m = λ e. other (sym at_rank ∙ ap (rank_in g) e) in
        let now : with_stages g.ctx position stage' stages j.ctx j.position ≡ stage' =
        ap (λ x. with_stages g.ctx position stage' stages x j.position) is.0 ∙ (ap (λ x. with_stages g.ctx position stage' stages g.ctx x) is.1 ∙ cond-true (is_collective g.ctx position g.ctx position) stage' (stages g.ctx position) (same_collective g.ctx position)) in
        ap (λ f. is_done (f j.arg.member)) now ∙ (same j.arg.member inside differs
        ∙ (ap (λ x. is_done (stages x position j.arg.member)) (sym is.0) ∙ (ap (λ x. is_done (stages j.ctx x j.arg.member)) (sym is.1) ∙ call.done)))
  ];
}

-- the call of the member itself
pub own_call : (groups : Groups) (gives : Gives) (s2 : System) (stages : List Level → ℕ → ℕ → Stage) (g : Group) (position : ℕ) (stage' : ℕ → Stage) (j j' : Joined) (w : Went) (list : List Arg)
    → groups g.ctx ≡ Some g → j.ctx ≡ g.ctx → j.position ≡ position → j.gathered ≡ None → j.arg.member < length g.members → gives g.ctx position j.arg.member ≡ Some j.arg → s2.who g.ctx position j.arg.member ≡ true
    → is_done (stage' j.arg.member) ≡ w.out.gathered → (w.out.gathered ≡ false → w.sweep.joined ≡ Some j) → (w.out.gathered ≡ true → w.sweep.joined ≡ Some (with_list j list)) → w.sweep.joined ≡ Some j' → list ≡ all_of (length g.members) (gives g.ctx position)
    → IsCall groups gives s2 (with_stages g.ctx position stage' stages) (rank_in g j.arg.member) j'
own_call groups gives s2 stages g position stage' j j' w list known e_ctx e_position e_none within gave has done not_gathered gathered is list_is =
    let whole : list ≡ all_of (length g.members) (gives j.ctx j.position) = list_is ∙ (ap (λ x. all_of (length g.members) (gives x position)) (sym e_ctx) ∙ ap (λ x. all_of (length g.members) (gives j.ctx x)) (sym e_position)) in
    let S : List Level → ℕ → ℕ → Stage = with_stages g.ctx position stage' stages in
    let r : ℕ = rank_in g j.arg.member in
    let at : S j.ctx j.position ≡ stage' =
    ap (λ x. S x j.position) e_ctx ∙ (ap (λ x. S g.ctx x) e_position ∙ cond-true (is_collective g.ctx position g.ctx position) stage' (stages g.ctx position) (same_collective g.ctx position)) in
    let known' : groups j.ctx ≡ Some g = ap groups e_ctx ∙ known in
    let gave' : gives j.ctx j.position j.arg.member ≡ Some j.arg = ap (λ x. gives x j.position j.arg.member) e_ctx ∙ (ap (λ x. gives g.ctx x j.arg.member) e_position ∙ gave) in
    let has' : s2.who j.ctx j.position j.arg.member ≡ true = ap (λ x. s2.who x j.position j.arg.member) e_ctx ∙ (ap (λ x. s2.who g.ctx x j.arg.member) e_position ∙ has) in
    let P : Joined → Type 0 = λ x. IsCall groups gives s2 S r x in
    elim (cases_Bool w.out.gathered) [
      | inr f ↦
          let same : Some j ≡ Some j' = sym (not_gathered f) ∙ is in
          let e : j ≡ j' = cc in
          subst P e (record { group = g; known = known'; member = within; rank = refl; gave = gave'; has_joined = has'; done = ap (λ k. is_done (k j.arg.member)) at ∙ (done ∙ (f ∙ sym (ap is_some e_none))); list = λ xs h. absurd (nothing xs (sym e_none ∙ h)) })
      | inl t ↦
          let same : Some (with_list j list) ≡ Some j' = sym (gathered t) ∙ is in
          let e : with_list j list ≡ j' = cc in
          subst P e (record { group = g; known = known'; member = within; rank = refl; gave = gave'; has_joined = has'; done = ap (λ k. is_done (k j.arg.member)) at ∙ (done ∙ t); list = λ xs h. same_list list xs h whole })
    ]
  where
    nothing : (xs : List Arg) → None ≡ Some xs → ⊥
    nothing xs q = cc

    same_list : (ys xs : List Arg) {zs : List Arg} → Some ys ≡ Some xs → ys ≡ zs → xs ≡ zs
    same_list ys xs q r = let e : ys ≡ xs = cc in sym e ∙ r

-- all collectives go on under way when a member joins
pub joining_keeps : (groups : Groups) (gives : Gives) (s : System) (g : Group) (position : ℕ) (a : Arg) → AreGroups groups → AllGive groups gives → Underway groups gives s → MayJoin groups gives s g position a
    → Underway groups gives (after_joining s g position a)
joining_keeps groups gives s g position a are all under may =
    let stages : List Level → ℕ → ℕ → Stage = under.stages in
    let u : UnderwayAt groups gives s stages = under.at in
    let j : Joined = joins g position a in
    let r : ℕ = rank_in g a.member in
    let old : List TreeMsg = (s.sweeps r).tree in
    let n : ℕ = length g.members in
    let w : Went = looked n j old in
    let s2 : System = after_joining s g position a in
    let L : (ℕ → Bool) → Type 0 = λ x. Looked g.ctx position n (rank_in g) (gives g.ctx position) x (stages g.ctx position) (λ i. (s.sweeps (rank_in g i)).tree) s.bag j w in
    let l : L (s2.who g.ctx position) = subst L (sym (who_same s g position a))
    (look g.ctx position n (rank_in g) (gives g.ctx position) (with_joined a.member (s.who g.ctx position)) (stages g.ctx position) (λ i. (s.sweeps (rank_in g i)).tree) s.bag j
    (joining_looks groups gives s stages g position a are all u may)) in
    let leaves : LeavesOthers g.ctx position old w = looked_leaves n j old in
    let S : List Level → ℕ → ℕ → Stage = with_stages g.ctx position l.stage' stages in
    let c : Collective gives s g position (stages g.ctx position) = u.each g.ctx g position may.known in
    let this : Collective gives s2 g position l.stage' =
    this_collective gives s g position (stages g.ctx position) j w s.bag s2.who (λ i. (s.sweeps (rank_in g i)).tree) l refl refl refl may.member may.gave (are.distinct g.ctx g may.known)
    (λ k within other. refl)
    (λ i b within other has not_done gave. c.calls i b within (sym (with_joined-other a.member (s.who g.ctx position) i other) ∙ (ap (λ f. f i) (sym (who_same s g position a)) ∙ has)) not_done gave) in
    record {
      stages = S;
      at = record {
        each = λ ctx h p known. elim (which_collective g.ctx position h.ctx p) [
          | inl is ↦
              let same_group : Some h ≡ Some g = sym known ∙ (ap groups (sym (are.own_ctx ctx h known) ∙ is.0) ∙ may.known) in
              let h_is : g ≡ h = cc in
              let C : Group → ℕ → Type 0 = λ x y. Collective gives s2 x y (S x.ctx y) in
              let now : S g.ctx position ≡ l.stage' = cond-true (is_collective g.ctx position g.ctx position) l.stage' (stages g.ctx position) (same_collective g.ctx position) in
              let D : (ℕ → Stage) → Type 0 = λ x. Collective gives s2 g position x in
              let at_g : C g position = subst D (sym now) this in
              let E : ℕ → Type 0 = λ y. C g y in
              let F : Group → Type 0 = λ x. C x p in
              subst F h_is (subst E (sym is.1) at_g)
          | inr apart ↦
              let now : S h.ctx p ≡ stages h.ctx p = cond-false (is_collective g.ctx position h.ctx p) l.stage' (stages h.ctx p) apart in
              let D : (ℕ → Stage) → Type 0 = λ x. Collective gives s2 h p x in
              subst D (sym now) (other_collective gives s h p (stages h.ctx p) g.ctx position r w (rank_in g) s2.who s.bag (u.each ctx h p known) leaves apart (who_other s g position a h.ctx p apart)
              (λ i. refl) (λ q. refl) (λ j' e f is. absurd (none_joined s r j' may.nothing_joined is)))
        ];
        own = λ q j' is. elim (cases_eq q r) [
          | inr other ↦
              call_at groups gives s s2 stages g position l.stage' a.member q j' are may.known may.member other
              (u.own q j' (ap (λ x. x.joined) (sym (with_sweep-other r w.sweep s.sweeps q other)) ∙ is)) (λ x p k h. who_more s g position a x p k h) l.others_done
          | inl e ↦
              let here : w.sweep.joined ≡ Some j' = ap (λ x. x.joined) (sym (with_sweep-same r w.sweep s.sweeps)) ∙ (ap (λ x. (with_sweep r w.sweep s.sweeps x).joined) (sym e) ∙ is) in
              let P : ℕ → Type 0 = λ x. IsCall groups gives s2 S x j' in
              subst P (sym e) (own_call groups gives s2 stages g position l.stage' j j' w (all_of n (gives g.ctx position)) may.known refl refl refl may.member may.gave
              (ap (λ f. f a.member) (who_same s g position a) ∙ with_joined-same a.member (s.who g.ctx position)) l.done l.not_gathered l.gathered here refl)
        ];
        ordered = λ q. elim (cases_eq q r) [
          | inr other ↦ let O : Sweep → Type 0 = λ x. IsTreeOrdered x.tree in subst O (sym (with_sweep-other r w.sweep s.sweeps q other)) (u.ordered q)
          | inl e ↦
              let O : Sweep → Type 0 = λ x. IsTreeOrdered x.tree in
              let Q : ℕ → Type 0 = λ x. IsTreeOrdered (with_sweep r w.sweep s.sweeps x).tree in
              subst Q (sym e) (subst O (sym (with_sweep-same r w.sweep s.sweeps)) (leaves.ordered (u.ordered r)))
        ];
        only_up = λ q. elim (cases_eq q r) [
          | inr other ↦ let O : Sweep → Type 0 = λ x. All GoesUp x.tree in subst O (sym (with_sweep-other r w.sweep s.sweeps q other)) (u.only_up q)
          | inl e ↦
              let O : Sweep → Type 0 = λ x. All GoesUp x.tree in
              let Q : ℕ → Type 0 = λ x. All GoesUp (with_sweep r w.sweep s.sweeps x).tree in
              subst Q (sym e) (subst O (sym (with_sweep-same r w.sweep s.sweeps)) (leaves.only_up (u.only_up r)))
        ];
        known = All-append (IsKnown groups) s.bag (parcels_by (Some g) w.out.sends) u.known (sent_known groups g.ctx position (Some g) w.out.sends (ap is_some may.known) leaves.sent);
      };
    }
  where
    none_joined : (s : System) (r : ℕ) (j : Joined) → (s.sweeps r).joined ≡ None → (s.sweeps r).joined ≡ Some j → ⊥
    none_joined s r j e f = let q : None ≡ Some j = sym e ∙ f in cc

    who_more : (s : System) (g : Group) (position : ℕ) (a : Arg) (c : List Level) (p k : ℕ) → s.who c p k ≡ true → (after_joining s g position a).who c p k ≡ true
    who_more s g position a c p k h = elim (cases_Bool (is_collective g.ctx position c p)) [
      | inl t ↦ ap (λ f. f k) (cond-true (is_collective g.ctx position c p) (with_joined a.member (s.who c p)) (s.who c p) t) ∙ with_joined-more a.member (s.who c p) k h
      | inr f ↦ ap (λ x. x k) (cond-false (is_collective g.ctx position c p) (with_joined a.member (s.who c p)) (s.who c p) f) ∙ h
    ]
