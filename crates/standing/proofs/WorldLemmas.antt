-- The world behind ticks at no call of MPI, behind an answered call, and behind a match.
use Rattle.std.proofs.Common.{ℕ, zero, suc, ◌≡◌, ◌≢◌, ◌+◌, ◌<◌, ◌≤◌, inl, inr, true, false, List, ◌∷◌, ◌++◌, refl, sym, ap, ◌∙◌, subst, arith, Option, Some, None}
use Rattle.std.proofs.lemmas.Bool.{eq-eqb}
use Rattle.std.proofs.lemmas.Bool.Decides.{eqb_tells}
use Rattle.std.proofs.lemmas.List.{append-nil}
use Rattle.std.specs.Prelude.{All, replicate, find, if◌then◌else◌}
use lib.Dec.{eqb}
use Rattle.vm_code.specs.Stops.{Paused}
use Rattle.mpi_types.specs.declared.entries.Entry.{Entry}
use Rattle.mpi_types.specs.declared.entries.Entry.TheVariants.{Tick, Match}
use Rattle.mpi_types.specs.declared.message.Message.{Message}
use Rattle.mpi_types.specs.declared.message.Posted.{Posted}
use Rattle.mpi_types.specs.Accepts.{accepts}
use Rattle.mpi_types.specs.Post.{with_pair}
use Rattle.mpi_rules.specs.Reply.{Reply, NotYet}
use Rattle.standing.specs.World.{Setting, World, RankPart, changed_at, outcome_of, reply_for, part_behind, is_pair, ticked_by, has_number, without_first, with_match, with_mpi, met_by, matched_by, after, after_all}
use Rattle.standing.specs.Steps.{MayTick, IsLegalFrom}
use Rattle.standing.proofs.ListLemmas.{found, taken_out}

different : (a b : ℕ) → a ≢ b → eqb a b ≡ false
different a b n = elim (eqb_tells a b) [ inl t ↦ absurd (n t.1) | inr t ↦ t.0 ]

pub changed_here : {X : Type 0} (f : ℕ → X) (r : ℕ) (x : X) → changed_at f r x r ≡ x
changed_here f r x = rw (eq-eqb r r refl) refl

pub changed_there : {X : Type 0} (f : ℕ → X) (r q : ℕ) (x : X) → q ≢ r → changed_at f r x q ≡ f q
changed_there f r q x n = rw (different q r n) refl

pub tick_of : ℕ → Entry
tick_of r = Tick (record { 0 = r })

-- ---- a tick

pub after_tick : (s : Setting) (w : World) (r : ℕ) (reply : Option Reply) → reply_for s r (w.rank r) ≡ reply
    → after s w (Tick (record { 0 = r })) ≡ ticked_by r reply w
unfolding after
after_tick s w r reply is = ap (λ x. ticked_by r x w) is

-- the rank with another number of ticks
abbrev pub at_ticks : RankPart → ℕ → RankPart
at_ticks part k = record { answers = part.answers; ticks = k; mpi = part.mpi }

-- The rank is paused there, and its next tick is at no call of MPI.
pub record IsFree (s : Setting) (r : ℕ) (part : RankPart) : Type 0 where
  pub paused : (outcome_of s r part).stop ≡ Paused
  pub no_call : reply_for s r part ≡ None

-- The world but for so many ticks of one rank.
pub record HasTicked (w : World) (r ticks : ℕ) (w' : World) : Type 0 where
  pub here : w'.rank r ≡ at_ticks (w.rank r) ((w.rank r).ticks + ticks)
  pub others : (q : ℕ) → q ≢ r → w'.rank q ≡ w.rank q
  pub queue : (a b : ℕ) → w'.queue a b ≡ w.queue a b

pub record TicksGo (s : Setting) (w : World) (r ticks : ℕ) : Type 0 where
  pub legal : IsLegalFrom s w (replicate ticks (Tick (record { 0 = r })))
  pub ticked : HasTicked w r ticks (after_all s w (replicate ticks (Tick (record { 0 = r }))))

no_ticks : (w : World) (r : ℕ) → HasTicked w r 0 w
no_ticks w r = record {
  here = ap (at_ticks (w.rank r)) (let same : (w.rank r).ticks ≡ (w.rank r).ticks + 0 = omega arith in same);
  others = λ q n. refl;
  queue = λ a b. refl;
}

one_tick : (w : World) (r : ℕ) → HasTicked w r 1 (ticked_by r None w)
one_tick w r = record {
  here = changed_here w.rank r (part_behind None (w.rank r));
  others = λ q n. changed_there w.rank r q (part_behind None (w.rank r)) n;
  queue = λ a b. append-nil (w.queue a b);
}

then_ticked : (w v u : World) (r m : ℕ) → HasTicked w r 1 v → HasTicked v r m u → HasTicked w r (suc m) u
then_ticked w v u r m first rest = record {
  here = rest.here
      ∙ ap (λ part. at_ticks part (part.ticks + m)) first.here
      ∙ ap (at_ticks (w.rank r)) (let same : ((w.rank r).ticks + 1) + m ≡ (w.rank r).ticks + suc m = omega arith in same);
  others = λ q n. rest.others q n ∙ first.others q n;
  queue = λ a b. rest.queue a b ∙ first.queue a b;
}

none_yet : None ≡ Some NotYet → ⊥
none_yet e = cc

free_may : (s : Setting) (w : World) (r : ℕ) → r < s.ranks → IsFree s r (w.rank r) → (w.rank r).ticks < s.bound → MayTick s w r
free_may s w r one free below = record {
  one_of_run = one;
  running = free.paused;
  below_bound = below;
  answered = λ e. none_yet (sym free.no_call ∙ e);
}

-- ticks at no call of MPI are allowed, and change the number of ticks alone
pub ticks_go : (s : Setting) (r n : ℕ) (w : World) → r < s.ranks
    → ((j : ℕ) → j < n → IsFree s r (at_ticks (w.rank r) ((w.rank r).ticks + j)))
    → ((w.rank r).ticks + n ≤ s.bound) → TicksGo s w r n
ticks_go s r zero w one free below = record { legal = tt; ticked = no_ticks w r }
ticks_go s r (suc n) w one free below =
    let part = w.rank r in
    let none : part.ticks + 0 ≡ part.ticks = omega arith in
    let P : ℕ → Type 0 = λ k. IsFree s r (at_ticks part k) in
    let now : IsFree s r part = subst P none (free 0 (omega arith)) in
    let v = after s w (Tick (record { 0 = r })) in
    let v_is : v ≡ ticked_by r None w = after_tick s w r None now.no_call in
    let Q : World → Type 0 = HasTicked w r 1 in
    let first : HasTicked w r 1 v = subst Q (sym v_is) (one_tick w r) in
    let ticks : (v.rank r).ticks ≡ part.ticks + 1 = ap (λ (p : RankPart). p.ticks) first.here in
    let R : RankPart → Type 0 = IsFree s r in
    let rest = ticks_go s r n v one
    (λ j small.
    let later : part.ticks + suc j ≡ (v.rank r).ticks + j = omega (arith, ticks) in
    let here : at_ticks part (part.ticks + suc j) ≡ at_ticks (v.rank r) ((v.rank r).ticks + j) =
    ap (at_ticks part) later ∙ sym (ap (λ (p : RankPart). at_ticks p ((v.rank r).ticks + j)) first.here) in
    subst R here (free (suc j) (omega arith)))
    (omega (arith, ticks, below)) in
    record {
      legal = (λ unmarked. free_may s w r one now (omega (arith, below)), rest.legal);
      ticked = then_ticked w v (after_all s v (replicate n (Tick (record { 0 = r })))) r n first rest.ticked;
    }

-- ---- a match

-- A receive meets a message: the first receive that was posted with this number, and the first message from s that it accepts.
pub record Meets (w : World) (r s : ℕ) (receive : Posted) (message : Message) (earlier later : List Posted) (before behind : List Message) : Type 0 where
  pub posted : (w.rank r).mpi.posted ≡ earlier ++ receive ∷ later
  pub queued : w.queue s r ≡ before ++ message ∷ behind
  pub numbers : All (λ p. has_number receive.request p ≡ false) earlier
  pub refused : All (λ m. accepts receive m ≡ false) before
  pub accepted : accepts receive message ≡ true

-- The world but for the match.
pub record HasMet (w : World) (r s : ℕ) (receive : Posted) (message : Message) (earlier later : List Posted) (before behind : List Message) (w' : World)
    : Type 0 where
  pub here : w'.rank r ≡ with_mpi (record {
    own = (w.rank r).mpi.own;
    posted = earlier ++ later;
    matched = with_pair (record { receive = receive; message = message }) (w.rank r).mpi.matched;
    joined = (w.rank r).mpi.joined;
  }) (w.rank r)
  pub others : (q : ℕ) → q ≢ r → w'.rank q ≡ w.rank q
  pub queue_here : w'.queue s r ≡ before ++ behind
  pub queue_else : (a b : ℕ) → is_pair a b s r ≡ false → w'.queue a b ≡ w.queue a b

met : (w : World) (r s : ℕ) (receive : Posted) (message : Message) (earlier later : List Posted) (before behind : List Message)
    → Meets w r s receive message earlier later before behind
    → HasMet w r s receive message earlier later before behind (met_by r s receive (Some message) w)
met w r s receive message earlier later before behind meets =
    let new = with_mpi (with_match receive message (w.rank r).mpi) (w.rank r) in
    let posted : without_first (has_number receive.request) (w.rank r).mpi.posted ≡ earlier ++ later =
    ap (without_first (has_number receive.request)) meets.posted
    ∙ taken_out (has_number receive.request) earlier receive later meets.numbers (eq-eqb receive.request receive.request refl) in
    record {
      here = changed_here w.rank r new
          ∙ ap (λ ps. with_mpi (record {
            own = (w.rank r).mpi.own;
            posted = ps;
            matched = with_pair (record { receive = receive; message = message }) (w.rank r).mpi.matched;
            joined = (w.rank r).mpi.joined;
          }) (w.rank r)) posted;
      others = λ q n. changed_there w.rank r q new n;
      queue_here = taken_here (w.queue s r) meets.queued;
      queue_else = λ a b other. rw other refl;
    }
  where
    is_here : is_pair s r s r ≡ true
    is_here = rw (eq-eqb s s refl) (eq-eqb r r refl)

    taken_here : (queue : List Message) → queue ≡ before ++ message ∷ behind
        → (if is_pair s r s r then without_first (accepts receive) queue else queue) ≡ before ++ behind
    taken_here queue is = rw is_here (ap (without_first (accepts receive)) is ∙ taken_out (accepts receive) before message behind meets.refused meets.accepted)

after_match : (s : Setting) (w : World) (r request sender : ℕ) → after s w (Match (record { 0 = r }) request (record { 0 = sender }))
    ≡ matched_by r sender (find (has_number request) (w.rank r).mpi.posted) w
unfolding after
after_match s w r request sender = refl

pub meets_go : (st : Setting) (w : World) (r s : ℕ) (receive : Posted) (message : Message) (earlier later : List Posted) (before behind : List Message)
    → Meets w r s receive message earlier later before behind
    → HasMet w r s receive message earlier later before behind (after st w (Match (record { 0 = r }) receive.request (record { 0 = s })))
meets_go st w r s receive message earlier later before behind meets =
    let P : World → Type 0 = HasMet w r s receive message earlier later before behind in
    let receive_is : find (has_number receive.request) (w.rank r).mpi.posted ≡ Some receive =
    ap (find (has_number receive.request)) meets.posted
    ∙ found (has_number receive.request) earlier receive later meets.numbers (eq-eqb receive.request receive.request refl) in
    let message_is : find (accepts receive) (w.queue s r) ≡ Some message =
    ap (find (accepts receive)) meets.queued ∙ found (accepts receive) before message behind meets.refused meets.accepted in
    let is : after st w (Match (record { 0 = r }) receive.request (record { 0 = s })) ≡ met_by r s receive (Some message) w =
    after_match st w r receive.request s ∙ ap (λ o. matched_by r s o w) receive_is ∙ ap (λ o. met_by r s receive o w) message_is in
    subst P (sym is) (met w r s receive message earlier later before behind meets)
