-- A tick at a call of MPI, and the match behind it, are steps.
use Rattle.std.proofs.Common.{ℕ, ◌≡◌, ◌≢◌, ◌+◌, inl, inr, false, List, [], ◌∷◌, ◌++◌, refl, sym, ap, ◌∙◌, subst, append_assoc, Option, Some, None}
use Rattle.std.proofs.lemmas.Bool.Decides.{eqb_tells}
use Rattle.std.proofs.lemmas.List.{append-nil}
use Rattle.std.proofs.lemmas.List.Elements.{All-nil, All-cons, All-append, All-weaker}
use Rattle.std.specs.Prelude.{All}
use lib.Dec.{eqb}
use Rattle.vm_code.specs.declared.code.Code.{Code}
use Rattle.vm_code.specs.Stops as stops
use Rattle.vm_code.specs.Laws.{StaysStopped}
use Rattle.mpi_types.specs.declared.call.Answer.TheVariants as answer
use Rattle.mpi_types.specs.declared.call.Call.{Call}
use Rattle.mpi_types.specs.declared.entries.Entry.TheVariants.{Match}
use Rattle.mpi_types.specs.declared.lists.BookLists.{BookLists}
use Rattle.mpi_types.specs.declared.lists.MatchedPair.{MatchedPair}
use Rattle.mpi_types.specs.declared.message.Hit.{Hit}
use Rattle.mpi_types.specs.declared.message.Message.{Message}
use Rattle.mpi_types.specs.declared.message.Posted.{Posted}
use Rattle.mpi_types.specs.Accepts.{IsAcceptedBy, AcceptanceIsTested}
use Rattle.mpi_types.specs.Book.{IsSettled}
use Rattle.mpi_types.specs.First.{NoneOf}
use Rattle.mpi_types.specs.Post.{InsertionIsOnePlace, TakesMessage, with_pair}
use Rattle.mpi_types.proofs.ListLemmas.{All-middle, All-without}
use Rattle.mpi_rules.specs.declared.given.SendOut.{SendOut}
use Rattle.mpi_rules.specs.Calls.{reply}
use Rattle.mpi_rules.specs.Data.{MpiData}
use Rattle.mpi_rules.specs.Reply.{Given, Reply, Gives, Traps, Ends, NotYet, with_post}
use Rattle.rank_steps.specs.Steps.{Standing, DoesAnswer, IsAnswered, IsStopped, BookMoves, data_at, match_of}
use Rattle.standing.specs.World.{Setting, World, RankPart, has_number, sent_between, ticked_by, after}
use Rattle.standing.specs.Steps.{MayTick}
use Rattle.standing.specs.Stands.{FollowsRun, RankStands, Goes, from}
use Rattle.standing.specs.Laws.{CallsKeep}
use Rattle.standing.proofs.CallLemmas.{Asked, Answered, answered_so, asking, grown, others_still, stopped, sweep_joined, tick_then}
use Rattle.standing.proofs.MachineLemmas.{at_call}
use Rattle.standing.proofs.ReplyLemmas.{KeepsIn, KeepsLists, replies_keep}
use Rattle.standing.proofs.RunLemmas.{all_stand, stands_still}
use Rattle.standing.proofs.StandLemmas.{pair_other_receiver, pair_other_sender, from_parts, from_with, from_without, is_accepted_so, none_accepted, none_from, mpi_same, follows_mpi}
use Rattle.standing.proofs.WorldLemmas.{HasMet, after_tick, meets_go}

-- ---- nothing is posted

posts_nothing : (code : Code) (s : Setting) (w : World) (coming coming' : ℕ → ℕ → List Message) (held held' : ℕ → Option Standing) (r : ℕ) (call : Call)
    (send : Option SendOut) (old new : Standing) (g : Given) → Asked code s w coming coming' held held' r call send old new
    → IsAnswered code g send None None old new → g.post ≡ None → KeepsLists (data_at old) g
    → new.lists ≡ record { posted = g.after.posted; matched = g.after.matched; arrived = old.lists.arrived }
    → Goes code s (ticked_by r (Some (Gives g)) w) [] coming' held'
posts_nothing code s w coming coming' held held' r call send old new g asked does post keeps lists =
    let stands = asked.stand r old asked.held_is.here in
    let answered = answered_so code s w coming coming' held held' r call send None old new g None asked does post in
    let joined = sweep_joined g.join g.after old.sweep new.sweep does.sweep in
    let P : List Posted → Type 0 = λ ps. All (λ p. NoneOf (IsAcceptedBy p) old.lists.arrived) ps in
    let S : BookLists → Type 0 = IsSettled in
    record {
      legal = tt;
      stands = all_stand code s (ticked_by r (Some (Gives g)) w) coming' held held' r new asked.set (record {
        follows = answered.follows;
        data_is = answered.here ∙ mpi_same g.after (data_at new) (sym does.own) (ap (λ (l : BookLists). l.posted) (sym lists))
            (ap (λ (l : BookLists). l.matched) (sym lists)) (sym joined.1);
        queues = λ b. ap (λ x. w.queue b r ++ sent_between x b r) (sym does.send_is)
            ∙ grown w coming coming' send b r old.lists.arrived asked.sent (stands.queues b)
            ∙ ap (λ (l : BookLists). from b l.arrived ++ coming' b r) (sym lists);
        settled = subst S (sym lists) (subst P (sym keeps.posted) stands.settled);
        orderly = asked.orderly;
      }) (others_still code s w coming coming' held held' r call send old new (Gives g) asked (sym does.send_is));
    }

-- ---- a receive is posted, and no message that has arrived is one that it accepts

posts_waiting : (code : Code) (s : Setting) (w : World) (coming coming' : ℕ → ℕ → List Message) (held held' : ℕ → Option Standing) (r : ℕ) (call : Call)
    (send : Option SendOut) (old new : Standing) (g : Given) (receive : Posted) → Asked code s w coming coming' held held' r call send old new
    → IsAnswered code g send None None old new → g.post ≡ Some receive → KeepsLists (data_at old) g
    → NoneOf (IsAcceptedBy receive) old.lists.arrived → new.lists ≡ record (old.lists) { posted = old.lists.posted ++ receive ∷ [] }
    → Goes code s (ticked_by r (Some (Gives g)) w) [] coming' held'
posts_waiting code s w coming coming' held held' r call send old new g receive asked does post keeps none lists =
    let stands = asked.stand r old asked.held_is.here in
    let answered = answered_so code s w coming coming' held held' r call send None old new g (Some receive) asked does post in
    let joined = sweep_joined g.join g.after old.sweep new.sweep does.sweep in
    let S : BookLists → Type 0 = IsSettled in
    record {
      legal = tt;
      stands = all_stand code s (ticked_by r (Some (Gives g)) w) coming' held held' r new asked.set (record {
        follows = answered.follows;
        data_is = answered.here ∙ mpi_same (with_post (Some receive) g.after) (data_at new) (sym does.own)
            (ap (λ ps. ps ++ receive ∷ []) keeps.posted ∙ ap (λ (l : BookLists). l.posted) (sym lists))
            (keeps.matched receive post ∙ ap (λ (l : BookLists). l.matched) (sym lists)) (sym joined.1);
        queues = λ b. ap (λ x. w.queue b r ++ sent_between x b r) (sym does.send_is)
            ∙ grown w coming coming' send b r old.lists.arrived asked.sent (stands.queues b)
            ∙ ap (λ (l : BookLists). from b l.arrived ++ coming' b r) (sym lists);
        settled = subst S (sym lists) (All-append (λ p. NoneOf (IsAcceptedBy p) old.lists.arrived) old.lists.posted (receive ∷ []) stands.settled
            (All-cons (λ p. NoneOf (IsAcceptedBy p) old.lists.arrived) receive [] none (All-nil (λ p. NoneOf (IsAcceptedBy p) old.lists.arrived))));
        orderly = asked.orderly;
      }) (others_still code s w coming coming' held held' r call send old new (Gives g) asked (sym does.send_is));
    }

-- ---- a receive is posted, and takes the first message that has arrived and that it accepts

different : (a b : ℕ) → a ≢ b → eqb a b ≡ false
different a b n = elim (eqb_tells a b) [ inl t ↦ absurd (n t.1) | inr t ↦ t.0 ]

posts_taking : AcceptanceIsTested → InsertionIsOnePlace → (code : Code) (s : Setting) (w : World) (coming coming' : ℕ → ℕ → List Message)
    (held held' : ℕ → Option Standing) (r : ℕ) (call : Call) (send : Option SendOut) (hit : Hit) (old new : Standing) (g : Given) (receive : Posted)
    → Asked code s w coming coming' held held' r call send old new → IsAnswered code g send (Some hit) None old new → g.post ≡ Some receive
    → KeepsLists (data_at old) g → TakesMessage old.lists receive hit new.lists
    → Goes code s (ticked_by r (Some (Gives g)) w) (Match (record { 0 = r }) hit.request hit.sender ∷ []) coming' held'
posts_taking tested once code s w coming coming' held held' r call send hit old new g receive asked does post keeps took =
    subst P (sym took.told) record {
      legal = (
        λ unmarked. record {
          one_of_run = asked.held_is.one_of_run;
          receive = receive;
          message = message;
          earlier = old.lists.posted;
          later = [];
          before = from sender took.before;
          behind = from sender took.behind ++ coming' sender r;
          number = refl;
          first_receive = record { parts = posted; meets = took.first.meets; none_before = refuse };
          first_message = record {
            parts = queued;
            meets = took.first.meets;
            none_before = none_from receive sender took.before took.first.none_before;
          };
        },
        tt,
      );
      stands = all_stand code s u coming' held held' r new asked.set (record {
        follows = subst F (sym met.here) (follows_mpi code s r (v.rank r) _ new answered.follows);
        data_is = ap (λ (p : RankPart). p.mpi) met.here ∙ mpi_same _ (data_at new)
            (ap (λ (m : MpiData). m.own) answered.here ∙ sym does.own) (append-nil old.lists.posted ∙ sym took.posted)
            (ap (with_pair (record { receive = receive; message = message }))
            (ap (λ (m : MpiData). m.matched) answered.here ∙ keeps.matched receive post)
            ∙ sym (once old.lists.matched new.lists.matched (record { receive = receive; message = message }) took.matched))
            (ap (λ (m : MpiData). m.joined) answered.here ∙ sym joined.1);
        queues = λ b. elim (eqb_tells b sender) [
          | inl t ↦ let Q : ℕ → Type 0 = λ k. u.queue k r ≡ from k new.lists.arrived ++ coming' k r in subst Q (sym t.1) queue_now
          | inr t ↦ met.queue_else b r (pair_other_sender b sender r r t.1) ∙ queue_at b
              ∙ ap (λ ms. from b ms ++ coming' b r) took.first.parts ∙ ap (λ ms. ms ++ coming' b r) (without_it b t.1)
              ∙ ap (λ ms. from b ms ++ coming' b r) (sym took.arrived)
        ];
        settled = settled_now new.lists took.posted took.arrived;
        orderly = asked.orderly;
      }) (λ q rank other is.
          let still = others_still code s w coming coming' held held' r call send old new (Gives g) asked (sym does.send_is) q rank other is in
          stands_still code s v u coming' coming' q rank (met.others q other)
          (λ b. met.queue_else b q (pair_other_receiver b sender q r other) ∙ still.queues b) still);
    }
  where
    P : Hit → Type 0
    P h = Goes code s (ticked_by r (Some (Gives g)) w) (Match (record { 0 = r }) h.request h.sender ∷ []) coming' held'

    F : RankPart → Type 0
    F p = FollowsRun code s r p new

    stands : RankStands code s w coming r old
    stands = asked.stand r old asked.held_is.here

    message : Message
    message = took.message

    sender : ℕ
    sender = message.sender.0

    v : World
    v = ticked_by r (Some (Gives g)) w

    answered : Answered code s w r g (Some receive) new
    answered = answered_so code s w coming coming' held held' r call send (Some hit) old new g (Some receive) asked does post

    joined : (g.join ≡ None) × (new.sweep.joined ≡ g.after.joined)
    joined = sweep_joined g.join g.after old.sweep new.sweep does.sweep

    posted : (v.rank r).mpi.posted ≡ old.lists.posted ++ receive ∷ []
    posted = ap (λ (m : MpiData). m.posted) answered.here ∙ ap (λ ps. ps ++ receive ∷ []) keeps.posted

    queue_at : (b : ℕ) → v.queue b r ≡ from b old.lists.arrived ++ coming' b r
    queue_at b = ap (λ x. w.queue b r ++ sent_between x b r) (sym does.send_is)
        ∙ grown w coming coming' send b r old.lists.arrived asked.sent (stands.queues b)

    queued : v.queue sender r ≡ from sender took.before ++ message ∷ (from sender took.behind ++ coming' sender r)
    queued = queue_at sender ∙ ap (λ ms. from sender ms ++ coming' sender r) took.first.parts
        ∙ ap (λ ms. ms ++ coming' sender r) (from_parts sender took.before (message ∷ took.behind))
        ∙ append_assoc (from sender took.before) (from sender (message ∷ took.behind)) (coming' sender r)
        ∙ ap (λ ms. from sender took.before ++ (ms ++ coming' sender r)) (from_with message took.behind)

    settled_parts : All (λ p. NoneOf (IsAcceptedBy p) (took.before ++ message ∷ took.behind)) old.lists.posted
    settled_parts =
        let Q : List Message → Type 0 = λ ms. All (λ p. NoneOf (IsAcceptedBy p) ms) old.lists.posted in subst Q took.first.parts stands.settled

    refuse : NoneOf (λ p. IsAcceptedBy p message) old.lists.posted
    refuse = All-weaker (λ p. NoneOf (IsAcceptedBy p) (took.before ++ message ∷ took.behind)) (λ p. IsAcceptedBy p message → ⊥)
        (λ p none. All-middle (λ m. IsAcceptedBy p m → ⊥) took.before message took.behind none) old.lists.posted settled_parts

    numbers : All (λ p. has_number receive.request p ≡ false) old.lists.posted
    numbers =
        let pair : MatchedPair = record { receive = receive; message = message } in
        let A : List Posted → Type 0 = All (λ p. All (λ (m : MatchedPair). p.request ≢ m.receive.request) new.lists.matched) in
        All-weaker (λ p. All (λ (m : MatchedPair). p.request ≢ m.receive.request) new.lists.matched) (λ p. has_number receive.request p ≡ false)
        (λ p apart.
        let B : List MatchedPair → Type 0 = All (λ (m : MatchedPair). p.request ≢ m.receive.request) in
        different p.request receive.request
        (All-middle (λ (m : MatchedPair). p.request ≢ m.receive.request) took.matched.lower pair took.matched.higher (subst B took.matched.now apart)))
        old.lists.posted (subst A took.posted asked.orderly.apart)

    u : World
    u = after s v (Match (record { 0 = r }) receive.request (record { 0 = sender }))

    met : HasMet v r sender receive message old.lists.posted [] (from sender took.before) (from sender took.behind ++ coming' sender r) u
    met = meets_go s v r sender receive message old.lists.posted [] (from sender took.before) (from sender took.behind ++ coming' sender r) (record {
      posted = posted;
      queued = queued;
      numbers = numbers;
      refused = none_accepted tested receive (from sender took.before) (none_from receive sender took.before took.first.none_before);
      accepted = is_accepted_so tested receive message took.first.meets;
    })

    queue_now : u.queue sender r ≡ from sender new.lists.arrived ++ coming' sender r
    queue_now = met.queue_here ∙ sym (append_assoc (from sender took.before) (from sender took.behind) (coming' sender r))
        ∙ ap (λ ms. ms ++ coming' sender r) (sym (from_parts sender took.before took.behind))
        ∙ ap (λ ms. from sender ms ++ coming' sender r) (sym took.arrived)

    without_it : (b : ℕ) → b ≢ sender → from b (took.before ++ message ∷ took.behind) ≡ from b (took.before ++ took.behind)
    without_it b other = from_parts b took.before (message ∷ took.behind)
        ∙ ap (λ ms. from b took.before ++ ms) (from_without b message took.behind other) ∙ sym (from_parts b took.before took.behind)

    settled_now : (lists : BookLists) → lists.posted ≡ old.lists.posted → lists.arrived ≡ took.before ++ took.behind → IsSettled lists
    settled_now lists posted_is arrived_is =
        let Q : List Posted → Type 0 = All (λ p. NoneOf (IsAcceptedBy p) lists.arrived) in
        let R : List Message → Type 0 = λ ms. All (λ p. NoneOf (IsAcceptedBy p) ms) old.lists.posted in
        subst Q (sym posted_is) (subst R (sym arrived_is)
        (All-weaker (λ p. NoneOf (IsAcceptedBy p) (took.before ++ message ∷ took.behind)) (λ p. NoneOf (IsAcceptedBy p) (took.before ++ took.behind))
        (λ p none. All-without (λ m. IsAcceptedBy p m → ⊥) took.before message took.behind none) old.lists.posted settled_parts))

-- ---- all of them

by_post : AcceptanceIsTested → InsertionIsOnePlace → (code : Code) (s : Setting) (w : World) (coming coming' : ℕ → ℕ → List Message)
    (held held' : ℕ → Option Standing) (r : ℕ) (call : Call) (send : Option SendOut) (hit : Option Hit) (old new : Standing) (g : Given) (o : Option Posted)
    → Asked code s w coming coming' held held' r call send old new → IsAnswered code g send hit None old new → g.post ≡ o
    → KeepsLists (data_at old) g → BookMoves o g.after old.lists hit new.lists
    → Goes code s (ticked_by r (Some (Gives g)) w) (match_of (record { 0 = r }) hit) coming' held'
by_post tested once code s w coming coming' held held' r call send hit old new g None asked does post keeps book =
    let P : Option Hit → Type 0 = λ h. Goes code s (ticked_by r (Some (Gives g)) w) (match_of (record { 0 = r }) h) coming' held' in
    let D : Option Hit → Type 0 = λ h. IsAnswered code g send h None old new in
    subst P (sym book.0) (posts_nothing code s w coming coming' held held' r call send old new g asked (subst D book.0 does) post keeps book.1)
by_post tested once code s w coming coming' held held' r call send None old new g (Some receive) asked does post keeps book =
    posts_waiting code s w coming coming' held held' r call send old new g receive asked does post keeps book.0 book.1
by_post tested once code s w coming coming' held held' r call send (Some hit) old new g (Some receive) asked does post keeps book =
    posts_taking tested once code s w coming coming' held held' r call send hit old new g receive asked does post keeps book

by_reply : StaysStopped → AcceptanceIsTested → InsertionIsOnePlace → (code : Code) (s : Setting) (w : World) (coming coming' : ℕ → ℕ → List Message)
    (held held' : ℕ → Option Standing) (r : ℕ) (call : Call) (send : Option SendOut) (hit : Option Hit) (old new : Standing) (given : Reply)
    → Asked code s w coming coming' held held' r call send old new → KeepsIn (data_at old) given → DoesAnswer code given send hit None old new
    → Goes code s (ticked_by r (Some given) w) (match_of (record { 0 = r }) hit) coming' held'
by_reply stays tested once code s w coming coming' held held' r call send hit old new (Gives g) asked keeps does =
    by_post tested once code s w coming coming' held held' r call send hit old new g g.post asked does refl keeps does.book
by_reply stays tested once code s w coming coming' held held' r call send hit old new (Traps why) asked keeps does =
    let stopped_so = does.2 in
    let P : Option Hit → Type 0 = λ h. Goes code s (ticked_by r (Some (Traps why)) w) (match_of (record { 0 = r }) h) coming' held' in
    let D : Option Hit → Type 0 = λ h. IsStopped code (answer.Trap why) (stops.Trapped why does.0 does.1) send h None old new in
    subst P (sym stopped_so.alone.1) (stopped stays code s w coming coming' held held' r call send old new (Traps why) (answer.Trap why)
    (stops.Trapped why does.0 does.1) asked (sym stopped_so.alone.0) refl (subst D stopped_so.alone.1 stopped_so))
by_reply stays tested once code s w coming coming' held held' r call send hit old new (Ends status) asked keeps does =
    let P : Option Hit → Type 0 = λ h. Goes code s (ticked_by r (Some (Ends status)) w) (match_of (record { 0 = r }) h) coming' held' in
    let D : Option Hit → Type 0 = λ h. IsStopped code (answer.End status) (stops.Ended status) send h None old new in
    subst P (sym does.alone.1) (stopped stays code s w coming coming' held held' r call send old new (Ends status) (answer.End status)
    (stops.Ended status) asked (sym does.alone.0) refl (subst D does.alone.1 does))
by_reply stays tested once code s w coming coming' held held' r call send hit old new NotYet asked keeps does = absurd does

answers_no : (code : Code) (given : Reply) (send : Option SendOut) (hit : Option Hit) (old new : Standing) → DoesAnswer code given send hit None old new
    → Some given ≡ Some NotYet → ⊥
answers_no code NotYet send hit old new does e = does
answers_no code (Gives g) send hit old new does e = cc
answers_no code (Traps why) send hit old new does e = cc
answers_no code (Ends status) send hit old new does e = cc

pub calls_go : StaysStopped → AcceptanceIsTested → InsertionIsOnePlace → CallsKeep
calls_go stays tested once code s w coming coming' held held' r call send hit old new stand held_is asked_of sent set =
    let stands = stand r old held_is.here in
    let at = at_call code old.machine call asked_of.asked.waits in
    let given = reply old.machine.done.memory.areas (data_at old) call in
    let is = asking stays code s r (w.rank r) call old stands.follows asked_of.asked.running at stands.data_is in
    let may : MayTick s w r = record {
      one_of_run = held_is.one_of_run;
      running = is.paused;
      below_bound = asked_of.within;
      answered = λ e. answers_no code given send hit old new asked_of.asked.does (sym is.reply_is ∙ e);
    } in
    tick_then code s w (ticked_by r (Some given) w) r (match_of (record { 0 = r }) hit) coming' held' may (after_tick s w r (Some given) is.reply_is)
    (by_reply stays tested once code s w coming coming' held held' r call send hit old new given (record {
      stand = stand;
      held_is = held_is;
      at = at;
      running = asked_of.asked.running;
      orderly = asked_of.orderly;
      within = asked_of.within;
      sent = sent;
      set = set;
    }) (replies_keep old.machine.done.memory.areas (data_at old) call) asked_of.asked.does)
