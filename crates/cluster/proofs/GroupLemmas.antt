-- A run of one rank, as the world has it.
use Rattle.std.proofs.Common.{ℕ, zero, suc, ◌≡◌, ◌≢◌, ◌+◌, ◌-◌, ◌*◌, ◌<◌, ◌≤◌, List, [], ◌∷◌, ◌++◌, length, get_or, set, refl, sym, ap, ◌∙◌, subst, append_assoc, length-append, arith, Bool, true, false, inl, inr}
use Rattle.std.proofs.lemmas.Bool.{eq-eqb}
use Rattle.std.proofs.lemmas.Bool.Decides.{eqb_tells}
use Rattle.std.proofs.lemmas.List.{append-nil, length-replicate, get_or-set_other, length-set}
use Rattle.std.proofs.lemmas.Grind.{get_or-set_at}
use Rattle.std.proofs.lemmas.List.Sums.{sum_by-set}
use Rattle.std.specs.Prelude.{replicate}
use Rattle.std.specs.List.{sum_by, range_with_len}
use lib.Dec.{eqb}
use Rattle.rank_range.specs.declared.run.Ending.TheVariants.{Running}
use Rattle.vm_code.specs.Stops.{Stop, Paused, Waits, Ended, Trapped}
use Rattle.c_model.specs.Statements.{run_of}
use Rattle.mpi_types.specs.declared.call.Answer.{Answer}
use Rattle.w_model.specs.Texts.{ending_of}
use Rattle.cluster.specs.Rank.{run_at}
use Rattle.mpi_types.specs.declared.entries.Entry.{Entry}
use Rattle.w_model.specs.World.{Setting, World, RankPart, MayTick, after, after_all, world_of, start_world, changed_at, ticked, IsLegalFrom}
use Rattle.w_model.specs.Cut.{rank_numbers}
use Rattle.w_model.specs.Drain.{tick_of, IsRunOf, IsRound, IsDrain, last, more, ticks_in_round}
use Rattle.w_model.proofs.DrainLemmas.{after_all-append}
use Rattle.vm_code.specs.declared.code.Code.{Code}
use Rattle.cluster.specs.declared.rank.Rank.{Rank}
use Rattle.cluster.specs.Rank.{StandsFor, Ticked, Ran}
use Rattle.cluster.specs.Group.{IsPart, ticks_left, Stand, AddsRun, AddsRound, AddsDrain}

module _ (code : Code) where
  different : (a b : ℕ) → a ≢ b → eqb a b ≡ false
  different a b n = elim (eqb_tells a b) [ inl t ↦ absurd (n t.1) | inr t ↦ t.0 ]

  changed-same : {X : Type 0} (f : ℕ → X) (r : ℕ) (x : X) → changed_at f r x r ≡ x
  changed-same f r x = rw (eq-eqb r r refl) refl

  changed-other : {X : Type 0} (f : ℕ → X) (r q : ℕ) (x : X) → q ≢ r → changed_at f r x q ≡ f q
  changed-other f r q x n = rw (different q r n) refl

  -- a rank's part after ticks of its own
  part-ticked : (n : ℕ) (w : World) (r : ℕ)
      → ((after_all w (replicate n (tick_of r))).rank r).ticks ≡ (w.rank r).ticks + n
  part-ticked zero w r = omega arith
  part-ticked (suc n) w r =
      let first : ((after w (tick_of r)).rank r).ticks ≡ (w.rank r).ticks + 1 = ap (λ p. p.ticks) (changed-same w.rank r (ticked (w.rank r))) in
      part-ticked n (after w (tick_of r)) r ∙ omega (arith, first)

  part-unanswered : (n : ℕ) (w : World) (r : ℕ)
      → ((after_all w (replicate n (tick_of r))).rank r).answers ≡ (w.rank r).answers
  part-unanswered zero w r = refl
  part-unanswered (suc n) w r =
      part-unanswered n (after w (tick_of r)) r ∙ ap (λ p. p.answers) (changed-same w.rank r (ticked (w.rank r)))

  -- and after ticks of another
  part-kept : (n : ℕ) (w : World) (r q : ℕ) → q ≢ r → (after_all w (replicate n (tick_of r))).rank q ≡ w.rank q
  part-kept zero w r q other = refl
  part-kept (suc n) w r q other =
      part-kept n (after w (tick_of r)) r q other ∙ changed-other w.rank r q (ticked (w.rank r)) other

  -- ticks that are each allowed are legal
  ticks-legal : (s : Setting) (r n : ℕ) (w : World) → r < s.ranks → (w.rank r).answers ≡ []
      → ((j : ℕ) → j < n → (run_at s r ((w.rank r).ticks + j)).stop ≡ Paused)
      → ((j : ℕ) → j < n → (w.rank r).ticks + j < s.bound)
      → IsLegalFrom s w (replicate n (tick_of r))
  ticks-legal s r zero w one unanswered running below = tt
  ticks-legal s r (suc n) w one unanswered running below =
      let first : ((after w (tick_of r)).rank r).ticks ≡ (w.rank r).ticks + 1 = ap (λ p. p.ticks) (changed-same w.rank r (ticked (w.rank r))) in
      let still : ((after w (tick_of r)).rank r).answers ≡ [] = ap (λ p. p.answers) (changed-same w.rank r (ticked (w.rank r))) ∙ unanswered in
      let now : (w.rank r).ticks ≡ (w.rank r).ticks + 0 = omega arith in
      let may : MayTick s w r = record {
        one_of_run = one;
        running = ap (λ a. (run_of s.program s.segment r a (w.rank r).ticks).stop) unanswered
            ∙ ap (λ k. (run_at s r k).stop) now ∙ running 0 (omega arith);
        below_bound = omega (arith, below 0 (omega arith));
      } in (
        λ unmarked. may,
        ticks-legal s r n (after w (tick_of r)) one still
            (λ j small.
            let later : ((after w (tick_of r)).rank r).ticks + j ≡ (w.rank r).ticks + suc j = omega (arith, first) in
            ap (λ k. (run_at s r k).stop) later ∙ running (suc j) (omega arith))
            (λ j small. omega (arith, first, below (suc j) (omega arith))),
      )

  -- a run that may take a tick is neither ended nor trapped
  pausing : (stop : Stop) → stop ≡ Paused → ending_of stop ≡ Running
  pausing stop is = ap ending_of is

  -- what a rank took is a run of it
  run-of-ran : (s : Setting) (w : World) (r taken : ℕ) (rank new : Rank) → r < s.ranks → IsPart code s r (w.rank r) rank
      → Ran code s r ticks_in_round rank new taken
      → IsRunOf s w r ticks_in_round (replicate taken (tick_of r))
  run-of-ran s w r taken rank new one part ran = record {
    ticks = taken;
    added_is = refl;
    within = ran.within;
    allowed = ticks-legal s r taken w one part.unanswered
        (λ j small. ap (λ k. (run_at s r (k + j)).stop) (sym part.ticks) ∙ ran.ticked.running j small)
        (λ j small. omega (arith, part.ticks, ran.ticked.below_bound j small));
    stopped = λ left may.
        let w' = after_all w (replicate taken (tick_of r)) in
        let ticks_now : new.regs.ticks ≡ (w'.rank r).ticks = ran.ticked.ticks ∙ ap (λ k. k + taken) part.ticks ∙ sym (part-ticked taken w r) in
        let none : (w'.rank r).answers ≡ [] = part-unanswered taken w r ∙ part.unanswered in
        let stop : (run_at s r new.regs.ticks).stop ≡ Paused =
        ap (λ k. (run_at s r k).stop) ticks_now
        ∙ ap (λ a. (run_of s.program s.segment r a (w'.rank r).ticks).stop) (sym none) ∙ may.running in
        let paused : new.ending ≡ Running = ran.ticked.stands.ending ∙ pausing _ stop in
        absurd (omega (arith, ran.stopped left paused, ticks_now, may.below_bound));
  }

  -- the ticks that are left, and those that were taken
  left-taken : (s : Setting) (r : ℕ) (old new : Rank) (taken : ℕ) → Ticked code s r old new taken
      → taken + ticks_left s.bound new ≡ ticks_left s.bound old
  left-taken s r old new zero ticked = omega (arith, ticked.ticks)
  left-taken s r old new (suc n) ticked = omega (arith, ticked.ticks, ticked.below_bound n (omega arith))

  pub adds-run : (s : Setting) (ranks : List Rank) (h : List Entry) (at taken : ℕ) (d new : Rank) (now : List Entry)
      → at < length ranks → Stand code s ranks h
      → Ran code s at ticks_in_round (get_or ranks at d) new taken → now ≡ h ++ replicate taken (tick_of at)
      → AddsRun code s at h (set ranks at new) now taken
  adds-run s ranks h at taken d new now within stand ran now_is =
      let rank = get_or ranks at d in
      let one : at < s.ranks = omega (arith, within, stand.count) in
      let part : IsPart code s at ((world_of h).rank at) rank = stand.each at d one in
      let world : world_of now ≡ after_all (world_of h) (replicate taken (tick_of at)) =
      ap world_of now_is ∙ after_all-append start_world h (replicate taken (tick_of at)) in
      let size : length now ≡ length h + taken = ap length now_is ∙ simp (length-append, length-replicate) in
      let sums : sum_by (ticks_left s.bound) (set ranks at new) + ticks_left s.bound (get_or ranks at d)
      ≡ sum_by (ticks_left s.bound) ranks + ticks_left s.bound new = sum_by-set (ticks_left s.bound) ranks at new d within in
      record {
        stand = record {
          count = length-set ranks at new ∙ stand.count;
          each = λ i e small. elim (eqb_tells i at) [
            | inl t ↦
                let here : get_or (set ranks at new) i e ≡ new = get_or-set_at ranks at i new e t.1 within in
                let P : Rank → Type 0 = λ x. IsPart code s i ((world_of now).rank i) x in
                let Q : ℕ → Type 0 = λ k. StandsFor code s k new in
                subst P (sym here) (record {
                  stands = subst Q (sym t.1) ran.ticked.stands;
                  ticks = ran.ticked.ticks ∙ ap (λ k. k + taken) part.ticks ∙ sym (part-ticked taken (world_of h) at)
                      ∙ ap (λ w. (w.rank at).ticks) (sym world) ∙ ap (λ k. ((world_of now).rank k).ticks) (sym t.1);
                  unanswered = ap (λ k. ((world_of now).rank k).answers) t.1 ∙ ap (λ w. (w.rank at).answers) world
                      ∙ part-unanswered taken (world_of h) at ∙ part.unanswered;
                })
            | inr t ↦
                let there : get_or (set ranks at new) i e ≡ get_or ranks i e = get_or-set_other ranks at i new e t.1 in
                let kept : (world_of now).rank i ≡ (world_of h).rank i =
                ap (λ w. w.rank i) world ∙ part-kept taken (world_of h) at i t.1 in
                let P : Rank → Type 0 = λ x. IsPart code s i ((world_of now).rank i) x in
                let Q : RankPart → Type 0 = λ p. IsPart code s i p (get_or ranks i e) in
                subst P (sym there) (subst Q (sym kept) (stand.each i e small))
          ];
          used = omega (arith, stand.used, size, sums, left-taken s at rank new taken ran.ticked);
        };
        added = replicate taken (tick_of at);
        new_is = now_is;
        run = run-of-ran s (world_of h) at taken rank new one part ran;
        taken_is = length-replicate taken (tick_of at);
      }

  -- The runs of the ranks below `at` are added, and those of the others make it a round.
  pub record RoundSoFar (s : Setting) (old : List Entry) (at : ℕ) (ranks : List Rank) (h : List Entry) (some : Bool) : Type 0 where
    pub stand : Stand code s ranks h
    pub added : List Entry
    pub h_is : h ≡ old ++ added
    pub so_far : (rest : List Entry) → IsRound s (world_of h) (range_with_len at (s.ranks - at)) rest
        → IsRound s (world_of old) (rank_numbers s) (added ++ rest)
    pub none : some ≡ false → added ≡ []
    pub one : some ≡ true → added ≢ []

  pub round-start : (s : Setting) (h : List Entry) (ranks : List Rank) → Stand code s ranks h → RoundSoFar s h 0 ranks h false
  round-start s h ranks stand = record {
    stand = stand;
    added = [];
    h_is = sym (append-nil h);
    so_far = λ rest round.
        let whole : s.ranks - 0 ≡ s.ranks = omega arith in
        let P : ℕ → Type 0 = λ k. IsRound s (world_of h) (range_with_len 0 k) rest in
        subst P whole round;
    none = λ e. refl;
    one = λ e. cc;
  }

  world-append : (h added now : List Entry) → now ≡ h ++ added → world_of now ≡ after_all (world_of h) added
  world-append h added now e = ap world_of e ∙ after_all-append start_world h added

  both-nil : {X : Type 0} (xs ys : List X) → xs ++ ys ≡ [] → (xs ≡ []) × (ys ≡ [])
  both-nil [] ys e = (refl, e)
  both-nil (x ∷ xs) ys e = cc

  pub round-next : (s : Setting) (old : List Entry) (at : ℕ) (ranks : List Rank) (h : List Entry) (some : Bool)
      (ranks' : List Rank) (h' : List Entry) (taken : ℕ) (some' : Bool) → at < s.ranks
      → RoundSoFar s old at ranks h some → AddsRun code s at h ranks' h' taken
      → (0 < taken → some' ≡ true) → (taken ≡ 0 → some' ≡ some)
      → RoundSoFar s old (at + 1) ranks' h' some'
  round-next s old at ranks h some ranks' h' taken some' one so_far run told kept = record {
    stand = run.stand;
    added = so_far.added ++ run.added;
    h_is = run.new_is ∙ ap (λ x. x ++ run.added) so_far.h_is ∙ append_assoc old so_far.added run.added;
    so_far = λ rest round.
        let next : s.ranks - at ≡ suc (s.ranks - (at + 1)) = omega arith in
        let P : World → Type 0 = λ w. IsRound s w (range_with_len (at + 1) (s.ranks - (at + 1))) rest in
        let others : IsRound s (after_all (world_of h) run.added) (range_with_len (at + 1) (s.ranks - (at + 1))) rest =
        subst P (world-append h run.added h' run.new_is) round in
        let Q : ℕ → Type 0 = λ k. IsRound s (world_of h) (range_with_len at k) (run.added ++ rest) in
        let R : List Entry → Type 0 = λ x. IsRound s (world_of old) (rank_numbers s) x in
        subst R (sym (append_assoc so_far.added run.added rest))
        (so_far.so_far (run.added ++ rest) (subst Q (sym next) (run.added, rest, refl, run.run, others)));
    none = λ e. no_entry so_far.added run.added taken run.taken_is (no_ticks taken e told)
        (so_far.none (sym (kept (no_ticks taken e told)) ∙ e));
    one = λ e empty.
        let parts = both-nil so_far.added run.added empty in
        let nothing : taken ≡ 0 = sym run.taken_is ∙ ap length parts.1 in
        so_far.one (sym (kept nothing) ∙ e) parts.0;
  }
    where
      no_ticks : (taken : ℕ) → some' ≡ false → (0 < taken → some' ≡ true) → taken ≡ 0
      no_ticks zero e told = refl
      no_ticks (suc n) e told = let t : some' ≡ true = told (omega arith) in cc

      no_entry : (xs ys : List Entry) (n : ℕ) → length ys ≡ n → n ≡ 0 → xs ≡ [] → xs ++ ys ≡ []
      no_entry xs [] n size zero_is none = rw none refl
      no_entry xs (y ∷ ys) n size zero_is none = absurd (omega (arith, size, zero_is))

  pub round-end : (s : Setting) (old : List Entry) (at : ℕ) (ranks : List Rank) (h : List Entry) (some : Bool) → s.ranks ≤ at
      → RoundSoFar s old at ranks h some → AddsRound code s old ranks h some
  round-end s old at ranks h some past so_far = record {
    stand = so_far.stand;
    added = so_far.added;
    new_is = so_far.h_is;
    round =
        let no_more : s.ranks - at ≡ 0 = omega arith in
        let P : ℕ → Type 0 = λ k. IsRound s (world_of h) (range_with_len at k) [] in
        let Q : List Entry → Type 0 = λ x. IsRound s (world_of old) (rank_numbers s) x in
        subst Q (append-nil so_far.added) (so_far.so_far [] (subst P (sym no_more) refl));
    none = so_far.none;
    one = so_far.one;
  }

  -- Rounds are added, and what a drain from here adds makes them a drain.
  pub record DrainSoFar (s : Setting) (old : List Entry) (ranks : List Rank) (h : List Entry) : Type 0 where
    pub stand : Stand code s ranks h
    pub added : List Entry
    pub h_is : h ≡ old ++ added
    pub so_far : (rest : List Entry) → IsDrain s (world_of h) rest → IsDrain s (world_of old) (added ++ rest)

  pub drain-start : (s : Setting) (h : List Entry) (ranks : List Rank) → Stand code s ranks h → DrainSoFar s h ranks h
  drain-start s h ranks stand = record { stand = stand; added = []; h_is = sym (append-nil h); so_far = λ rest drain. drain }

  pub drain-next : (s : Setting) (old : List Entry) (ranks : List Rank) (h : List Entry) (ranks' : List Rank) (h' : List Entry) (some : Bool)
      → some ≡ true → DrainSoFar s old ranks h → AddsRound code s h ranks' h' some → DrainSoFar s old ranks' h'
  drain-next s old ranks h ranks' h' some told so_far round = record {
    stand = round.stand;
    added = so_far.added ++ round.added;
    h_is = round.new_is ∙ ap (λ x. x ++ round.added) so_far.h_is ∙ append_assoc old so_far.added round.added;
    so_far = λ rest drain.
        let P : World → Type 0 = λ w. IsDrain s w rest in
        let Q : List Entry → Type 0 = λ x. IsDrain s (world_of old) x in
        subst Q (sym (append_assoc so_far.added round.added rest))
        (so_far.so_far (round.added ++ rest)
        (more (world_of h) round.added rest round.round (round.one told) (subst P (world-append h round.added h' round.new_is) drain)));
  }

  pub drain-end : (s : Setting) (old : List Entry) (ranks : List Rank) (h : List Entry) (ranks' : List Rank) (h' : List Entry) (some : Bool)
      → some ≡ false → DrainSoFar s old ranks h → AddsRound code s h ranks' h' some → AddsDrain code s old ranks' h'
  drain-end s old ranks h ranks' h' some told so_far round =
      let none : round.added ≡ [] = round.none told in
      let P : List Entry → Type 0 = λ x. IsRound s (world_of h) (rank_numbers s) x in
      let Q : List Entry → Type 0 = λ x. IsDrain s (world_of old) x in
      record {
        stand = round.stand;
        added = so_far.added;
        new_is = round.new_is ∙ ap (λ x. h ++ x) none ∙ append-nil h ∙ so_far.h_is;
        drain = subst Q (append-nil so_far.added) (so_far.so_far [] (last (world_of h) (subst P none round.round)));
      }

  some-entry : (xs : List Entry) → xs ≢ [] → 0 < length xs
  some-entry [] some = absurd (some refl)
  some-entry (x ∷ xs) some = omega arith

  -- a round with an entry leaves fewer ticks
  pub drain-falls : (s : Setting) (ranks ranks' : List Rank) (h h' : List Entry) (some : Bool) → some ≡ true
      → AddsRound code s h ranks' h' some → s.ranks * s.bound - length h' < s.ranks * s.bound - length h
  drain-falls s ranks ranks' h h' some told round =
      let grown : length h' ≡ length h + length round.added = ap length round.new_is ∙ length-append h round.added in
      omega (arith, grown, some-entry round.added (round.one told), round.stand.used)
