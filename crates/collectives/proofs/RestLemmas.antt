-- The start, the end of a call, and what is so at rest.
use Rattle.std.proofs.Common.{ℕ, zero, suc, ◌≡◌, ◌-◌, ◌<◌, ◌≤◌, inl, inr, List, [], ◌∷◌, map, Bool, true, false, ◌&&◌, ◌||◌, Some, None, length, refl, sym, subst, ap, ◌∙◌, arith}
use Rattle.std.specs.Prelude.{is_some, All, filter}
use Rattle.std.specs.List.{list_all}
use Rattle.std.proofs.lemmas.Bool.{cases_Bool, cases_lt, cases_eq, true≢false, false≢true, cond-true}
use Rattle.std.proofs.lemmas.List.Elements.{All-nil, All-head, All-tail}
use Rattle.mpi_types.specs.declared.argument.Arg.{Arg}
use Rattle.mpi_types.specs.declared.argument.Joined.{Joined}
use Rattle.mpi_types.specs.declared.argument.Sweep.{Sweep}
use Rattle.mpi_types.specs.declared.argument.TreeMsg.{TreeMsg}
use Rattle.mpi_types.specs.declared.context.Level.{Level}
use Rattle.mpi_types.specs.Order.{IsTreeOrdered}
use Rattle.collectives.specs.Tree.{parent_of, children}
use Rattle.collectives.specs.Held.{is_up_of}
use Rattle.collectives.specs.Slices.{up_of}
use Rattle.collectives.specs.Stages.{Stage, is_apart, is_rising, is_held, is_falling, is_done}
use Rattle.collectives.specs.System.{Parcel, StagesFit, Waits, goes_up_from, goes_down_to}
use Rattle.collectives.specs.Underway.{Groups, rank_in, AreGroups, Gives, System, with_sweep, Underway, GoesUp, IsKnown}
use Rattle.collectives.proofs.GoLemmas.{filter_none}
use Rattle.collectives.proofs.TreeLemmas.{parent_less, IsChild, children_are, end_within}
use Rattle.collectives.proofs.LookLemmas.{is_it_apart}
use Rattle.collectives.proofs.SystemLemmas.{same_messages, with_sweep-same, with_sweep-other}
use Rattle.collectives.specs.Stages.{may_be_below, Fit}
use Rattle.collectives.specs.Stages.Stage.{Apart, Rising, Held, Passed, Falling, Done}
use Rattle.collectives.specs.Underway.{IsStart, after_ending, AllGatherAtRest}
use Rattle.collectives.proofs.KeepLemmas.{own_member}

pub start_is : (groups : Groups) (gives : Gives) (s : System) → AreGroups groups → IsStart s → Underway groups gives s
start_is groups gives s are is = record {
  stages = λ c p k. Apart;
  at = record {
    each = λ ctx g position known.
        let n : ℕ = length g.members in
        let none : filter (λ (c : ℕ). false) (children n 0) ≡ [] = filter_none (λ c. false) (children n 0) (λ k d h. refl) in
        record {
          fits = record { fit = λ k some within. refl; top = refl; joined = λ i within e. absurd (true≢false e) };
          waits = λ i within a has. absurd (true≢false (sym has ∙ is.nobody g.ctx position i));
          messages = record {
            held = λ i within. ap (filter (is_up_of g.ctx position)) (is.nothing_held (rank_in g i)) ∙ sym (ap (map (up_of g.ctx position n (gives g.ctx position))) (filter_none (λ (c : ℕ). false) (children n i) (λ k d h. refl)));
            rising = λ i within. ap (filter (goes_up_from g.ctx position i)) is.nothing_sent;
            no_others = λ i past. ap (filter (goes_up_from g.ctx position i)) is.nothing_sent;
            falling = λ i within. ap (filter (goes_down_to g.ctx position (rank_in g i))) is.nothing_sent;
            no_strays = λ r none'. ap (filter (goes_down_to g.ctx position r)) is.nothing_sent;
          };
          calls = λ i a within has. absurd (true≢false (sym has ∙ is.nobody g.ctx position i));
        };
    own = λ r j e. absurd (never j (sym (is.nothing_joined r) ∙ e));
    ordered = λ r. let O : List TreeMsg → Type 0 = λ x. IsTreeOrdered x in subst O (sym (is.nothing_held r)) (λ i j d less within. absurd (omega arith));
    only_up = λ r. let O : List TreeMsg → Type 0 = λ x. All GoesUp x in subst O (sym (is.nothing_held r)) (All-nil GoesUp);
    known = let B : List Parcel → Type 0 = λ x. All (IsKnown groups) x in subst B (sym is.nothing_sent) (All-nil (IsKnown groups));
  };
}
  where
    never : (j : Joined) → None ≡ Some j → ⊥
    never j e = cc

-- the call of a rank ends
pub ending_keeps : (groups : Groups) (gives : Gives) (s : System) (r : ℕ) (j : Joined) → AreGroups groups → Underway groups gives s → (s.sweeps r).joined ≡ Some j → is_some j.gathered ≡ true → Underway groups gives (after_ending s r)
ending_keeps groups gives s r j are under joined gathered =
    let u = under.at in
    let w : Sweep = record { joined = None; tree = (s.sweeps r).tree } in
    let tree_same : (q : ℕ) → (with_sweep r w s.sweeps q).tree ≡ (s.sweeps q).tree = λ q. elim (cases_eq q r) [
      | inl e ↦ ap (λ x. (with_sweep r w s.sweeps x).tree) e ∙ (ap (λ x. x.tree) (with_sweep-same r w s.sweeps) ∙ ap (λ x. (s.sweeps x).tree) (sym e))
      | inr other ↦ ap (λ x. x.tree) (with_sweep-other r w s.sweeps q other)
    ] in
    record {
      stages = under.stages;
      at = record {
        each = λ ctx g position known.
            let c = u.each ctx g position known in
            record {
              fits = c.fits;
              waits = c.waits;
              messages = same_messages g.ctx position (length g.members) (rank_in g) (gives g.ctx position) (under.stages g.ctx position) (λ i. (s.sweeps (rank_in g i)).tree) (λ i. (with_sweep r w s.sweeps (rank_in g i)).tree) s.bag s.bag c.messages
                  (λ k within. ap (filter (is_up_of g.ctx position)) (tree_same (rank_in g k))) (λ i. refl) (λ q. refl);
              calls = λ i a within has not_done gave.
                  let was = c.calls i a within has not_done gave in
                  elim (cases_eq (rank_in g i) r) [
                    | inl e ↦
                        let q : Some j ≡ Some (record { ctx = g.ctx; position = position; arg = a; gathered = None }) = sym joined ∙ (ap (λ x. (s.sweeps x).joined) (sym e) ∙ was) in
                        absurd (false≢true (some_none j g.ctx position a q gathered))
                    | inr other ↦ ap (λ x. x.joined) (with_sweep-other r w s.sweeps (rank_in g i) other) ∙ was
                  ];
            };
        own = λ q j' e. elim (cases_eq q r) [
          | inl h ↦ absurd (never j' (sym (ap (λ x. (with_sweep r w s.sweeps x).joined) h ∙ ap (λ x. x.joined) (with_sweep-same r w s.sweeps)) ∙ e))
          | inr other ↦
              let call = u.own q j' (ap (λ x. x.joined) (sym (with_sweep-other r w s.sweeps q other)) ∙ e) in
              record { group = call.group; known = call.known; member = call.member; rank = call.rank; gave = call.gave; has_joined = call.has_joined; done = call.done; list = call.list }
        ];
        ordered = λ q. let O : List TreeMsg → Type 0 = λ x. IsTreeOrdered x in subst O (sym (tree_same q)) (u.ordered q);
        only_up = λ q. let O : List TreeMsg → Type 0 = λ x. All GoesUp x in subst O (sym (tree_same q)) (u.only_up q);
        known = u.known;
      };
    }
  where
    never : (j : Joined) → None ≡ Some j → ⊥
    never j e = cc

    some_none : (j : Joined) (ctx : List Level) (position : ℕ) (a : Arg) → Some j ≡ Some (record { ctx = ctx; position = position; arg = a; gathered = None }) → is_some j.gathered ≡ true → false ≡ true
    some_none j ctx position a q e = let is : j ≡ record { ctx = ctx; position = position; arg = a; gathered = None } = cc in ap (λ x. is_some x.gathered) (sym is) ∙ e

-- a child of which the parent doesn't hold the message
pub missing : (Q : ℕ → Type 0) (p : ℕ → Bool) (xs : List ℕ) → All Q xs → list_all p xs ≡ false → (c : ℕ) × (Q c × (p c ≡ false))
missing Q p [] h e = absurd (true≢false e)
missing Q p (x ∷ xs) h e = elim (cases_Bool (p x)) [
  | inr f ↦ (x, (All-head Q x xs h, f))
  | inl t ↦ missing Q p xs (All-tail Q x xs h) (sym (ap (λ b. b && list_all p xs) t) ∙ e)
]

below_apart : (c : Stage) → may_be_below Apart c ≡ true → is_rising c ≡ false → is_held c ≡ false → is_apart c ≡ true
below_apart Apart h r e = refl
below_apart Rising h r e = absurd (true≢false r)
below_apart Held h r e = absurd (true≢false e)
below_apart Passed h r e = absurd (false≢true h)
below_apart Falling h r e = absurd (false≢true h)
below_apart Done h r e = absurd (false≢true h)

below_done : (c : Stage) → may_be_below Done c ≡ true → is_falling c ≡ false → is_done c ≡ true
below_done Done h f = refl
below_done Falling h f = absurd (true≢false f)
below_done Apart h f = absurd (false≢true h)
below_done Rising h f = absurd (false≢true h)
below_done Held h f = absurd (false≢true h)
below_done Passed h f = absurd (false≢true h)

pub is_it_done : (s : Stage) → (is_apart s || is_done s) ≡ true → is_apart s ≡ false → s ≡ Done
is_it_done Done e f = refl
is_it_done Apart e f = absurd (true≢false f)
is_it_done Rising e f = absurd (false≢true e)
is_it_done Held e f = absurd (false≢true e)
is_it_done Passed e f = absurd (false≢true e)
is_it_done Falling e f = absurd (false≢true e)

all_done_is : (x : Stage) → is_done x ≡ true → x ≡ Done
all_done_is Done e = refl
all_done_is Apart e = absurd (false≢true e)
all_done_is Rising e = absurd (false≢true e)
all_done_is Held e = absurd (false≢true e)
all_done_is Passed e = absurd (false≢true e)
all_done_is Falling e = absurd (false≢true e)

none_apart : (f n i : ℕ) (who : ℕ → Bool) (stage : ℕ → Stage) → n ≤ 65536 → StagesFit n who stage → ((k : ℕ) → k < n → Waits n who stage k) → ((k : ℕ) → k < n → who k ≡ true) → ((k : ℕ) → k < n → is_rising (stage k) ≡ false)
    → n - i ≤ f → i < n → is_apart (stage i) ≡ false
none_apart zero n i who stage room fits waits all still fuel within = absurd (omega arith)
none_apart (suc f) n i who stage room fits waits all still fuel within = elim (cases_Bool (is_apart (stage i))) [
  | inr no_apart ↦ no_apart
  | inl apart ↦
      let m = missing (IsChild n i) (λ c. is_held (stage c)) (children n i) (children_are n i within room) (waits i within apart (all i within)) in
      let c : ℕ = m.0 in
      let c_within : c < n = omega (arith, m.1.0.within, end_within n i) in
      let P : Stage → Type 0 = λ x. may_be_below x (stage c) ≡ true in
      let fit : may_be_below Apart (stage c) ≡ true = subst P (ap stage m.1.0.parent ∙ is_it_apart (stage i) apart) (fits.fit c (omega (arith, m.1.0.behind)) c_within) in
      let again : is_apart (stage c) ≡ true = below_apart (stage c) fit (still c c_within) m.1.1 in
      absurd (true≢false (sym again ∙ none_apart f n c who stage room fits waits all still (omega (arith, m.1.0.behind)) c_within))
]

all_done : (f n k : ℕ) (stage : ℕ → Stage) → Fit n stage → stage 0 ≡ Done → ((i : ℕ) → i < n → is_falling (stage i) ≡ false) → k ≤ f → k < n → is_done (stage k) ≡ true
all_done zero n k stage fit top still low within = let e : k ≡ 0 = omega arith in ap is_done (ap stage e ∙ top)
all_done (suc f) n k stage fit top still low within = elim (cases_lt 0 k) [
  | inr none ↦ let e : k ≡ 0 = omega arith in ap is_done (ap stage e ∙ top)
  | inl some ↦
      let less : parent_of k < k = parent_less k some in
      let above : is_done (stage (parent_of k)) ≡ true = all_done f n (parent_of k) stage fit top still (omega arith) (omega arith) in
      let P : Stage → Type 0 = λ x. may_be_below x (stage k) ≡ true in
      below_done (stage k) (subst P (all_done_is (stage (parent_of k)) above) (fit k some within)) (still k within)
]

pub all_gather_at_rest : AllGatherAtRest
all_gather_at_rest groups gives s g position are under empty known all i within =
    let n : ℕ = length g.members in
    let c = under.at.each g.ctx g position known in
    let stage : ℕ → Stage = under.stages g.ctx position in
    let room : n ≤ 65536 = are.room g.ctx g known in
    let still_up : (k : ℕ) → k < n → is_rising (stage k) ≡ false = λ k inside. elim (cases_Bool (is_rising (stage k))) [
      | inr f ↦ f
      | inl t ↦ absurd (no_parcel _ (sym (ap (filter (goes_up_from g.ctx position k)) empty) ∙ (c.messages.rising k inside ∙ cond-true (is_rising (stage k)) _ [] t)))
    ] in
    let still_down : (k : ℕ) → k < n → is_falling (stage k) ≡ false = λ k inside. elim (cases_Bool (is_falling (stage k))) [
      | inr f ↦ f
      | inl t ↦ absurd (no_parcel _ (sym (ap (filter (goes_down_to g.ctx position (rank_in g k))) empty) ∙ (c.messages.falling k inside ∙ cond-true (is_falling (stage k)) _ [] t)))
    ] in
    let top : stage 0 ≡ Done = is_it_done (stage 0) c.fits.top (none_apart n n 0 (s.who g.ctx position) stage room c.fits c.waits all still_up (omega arith) (omega arith)) in
    let done : is_done (stage i) ≡ true = all_done i n i stage c.fits.fit top still_down (omega arith) within in (
      done,
      λ j joined e f.
          let call = under.at.own (rank_in g i) j joined in
          let member = own_member groups gives s under.stages (rank_in g i) j g call known e in
          let same : j.arg.member ≡ i = are.distinct g.ctx g known j.arg.member i member.0 within member.1 in
          sym call.done ∙ (ap (λ x. is_done (under.stages x j.position j.arg.member)) e ∙ (ap (λ x. is_done (under.stages g.ctx x j.arg.member)) f ∙ (ap (λ x. is_done (stage x)) same ∙ done))),
    )
  where
    no_parcel : (p : Parcel) → [] ≡ p ∷ [] → ⊥
    no_parcel p e = cc
