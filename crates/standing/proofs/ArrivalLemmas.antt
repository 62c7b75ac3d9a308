-- Arrivals.
use Rattle.std.proofs.Common.{ℕ, ◌≡◌, ◌≢◌, ◌<◌, inl, inr, List, [], ◌∷◌, ◌++◌, refl, sym, ap, ◌∙◌, subst, append_assoc, Option, Some, None}
use Rattle.std.proofs.lemmas.Bool.Decides.{eqb_tells}
use Rattle.std.proofs.lemmas.List.Elements.{All-nil, All-cons, All-append}
use Rattle.std.specs.Prelude.{All, AllPairs}
use Rattle.vm_code.specs.declared.code.Code.{Code}
use Rattle.mpi_types.specs.declared.entries.Entry.TheVariants.{Match}
use Rattle.mpi_types.specs.declared.lists.BookLists.{BookLists}
use Rattle.mpi_types.specs.declared.message.Hit.{Hit}
use Rattle.mpi_types.specs.declared.message.Message.{Message}
use Rattle.mpi_types.specs.declared.message.Posted.{Posted}
use Rattle.mpi_types.specs.Accepts.{IsAcceptedBy, AcceptanceIsTested}
use Rattle.mpi_types.specs.Book.{IsOrderly, IsSettled}
use Rattle.mpi_types.specs.First.{NoneOf}
use Rattle.mpi_types.specs.Post.{InsertionIsOnePlace, TakesReceive, with_pair}
use Rattle.mpi_types.proofs.ListLemmas.{All-both, All-middle, All-without}
use Rattle.mpi_rules.specs.Data.{MpiData}
use Rattle.rank_steps.specs.Steps.{Standing, HasArrived, data_at}
use Rattle.standing.specs.World.{Setting, World, RankPart, sent_between, after}
use Rattle.standing.specs.Stands.{FollowsRun, RankStands, RanksStand, IsSetAt, IsTakenFrom, Goes, from}
use Rattle.standing.specs.Laws.{IsHeld, ArrivalsKeep}
use Rattle.standing.proofs.RunLemmas.{all_stand, stands_still}
use Rattle.standing.proofs.StandLemmas.{sent_to, pair_other_receiver, pair_other_sender, between_same, between_none, from_one, from_parts, is_accepted_so, none_accepted, none_from, other_numbers, mpi_same, follows_same, follows_mpi}
use Rattle.standing.proofs.WorldLemmas.{HasMet, meets_go}

-- the queue of another rank
other_queue : (w : World) (coming coming' : ℕ → ℕ → List Message) (message : Message) (r q : ℕ) (rank : Standing) (a : ℕ) → q ≢ r
    → IsTakenFrom coming message r coming' → w.queue a q ≡ from a rank.lists.arrived ++ coming a q
    → w.queue a q ≡ from a rank.lists.arrived ++ coming' a q
other_queue w coming coming' message r q rank a other taken is =
    is ∙ ap (λ ms. from a rank.lists.arrived ++ ms)
    (taken a q ∙ ap (λ ms. ms ++ coming' a q) (between_none a q r message (pair_other_receiver a message.sender.0 q r other)))

-- the message is kept behind the others
kept : (code : Code) (s : Setting) (w : World) (coming coming' : ℕ → ℕ → List Message) (held held' : ℕ → Option Standing) (r : ℕ) (message : Message)
    (old new : Standing) → RanksStand code s w coming held → IsHeld s held r old → HasArrived message None old new → IsOrderly new.lists
    → IsTakenFrom coming message r coming' → IsSetAt held r new held' → Goes code s w [] coming' held'
kept code s w coming coming' held held' r message old new stand held_is arrived orderly taken set =
    let stands = stand r old held_is.here in
    let lists : new.lists ≡ record (old.lists) { arrived = old.lists.arrived ++ message ∷ [] } = arrived.book.1 in
    let none = arrived.book.0 in
    record {
      legal = tt;
      stands = all_stand code s w coming' held held' r new set (record {
        follows = follows_same code s r (w.rank r) old new arrived.machine arrived.ending stands.follows;
        data_is = stands.data_is ∙ mpi_same (data_at old) (data_at new) (sym arrived.own) (ap (λ (l : BookLists). l.posted) (sym lists))
            (ap (λ (l : BookLists). l.matched) (sym lists)) (ap (λ x. x.joined) (sym arrived.sweep));
        queues = λ a. stands.queues a ∙ ap (λ ms. from a old.lists.arrived ++ ms) (taken a r)
            ∙ sym (append_assoc (from a old.lists.arrived) (sent_between (Some (sent_to r message)) a r) (coming' a r))
            ∙ ap (λ ms. (from a old.lists.arrived ++ ms) ++ coming' a r) (sym (from_one a r message))
            ∙ ap (λ ms. ms ++ coming' a r) (sym (from_parts a old.lists.arrived (message ∷ [])))
            ∙ ap (λ (l : BookLists). from a l.arrived ++ coming' a r) (sym lists);
        settled = let Q : BookLists → Type 0 = IsSettled in
            subst Q (sym lists) (All-both (λ receive. NoneOf (IsAcceptedBy receive) old.lists.arrived) (λ receive. IsAcceptedBy receive message → ⊥)
            (λ receive. NoneOf (IsAcceptedBy receive) (old.lists.arrived ++ message ∷ []))
            (λ receive before refused. All-append (λ m. IsAcceptedBy receive m → ⊥) old.lists.arrived (message ∷ []) before
            (All-cons (λ m. IsAcceptedBy receive m → ⊥) message [] refused (All-nil (λ m. IsAcceptedBy receive m → ⊥))))
            old.lists.posted stands.settled none);
        orderly = orderly;
      }) (λ q rank other is.
          let others = stand q rank is in
          stands_still code s w w coming coming' q rank refl (λ a. other_queue w coming coming' message r q rank a other taken (others.queues a)) others);
    }

-- the first receive that accepts it gets it
got : AcceptanceIsTested → InsertionIsOnePlace → (code : Code) (s : Setting) (w : World) (coming coming' : ℕ → ℕ → List Message)
    (held held' : ℕ → Option Standing) (r : ℕ) (message : Message) (hit : Hit) (old new : Standing)
    → RanksStand code s w coming held → IsHeld s held r old → HasArrived message (Some hit) old new → IsOrderly new.lists
    → IsTakenFrom coming message r coming' → IsSetAt held r new held'
    → Goes code s w (Match (record { 0 = r }) hit.request hit.sender ∷ []) coming' held'
got tested once code s w coming coming' held held' r message hit old new stand held_is arrived orderly taken set =
    subst P (sym took.told) record {
      legal = (
        λ unmarked. record {
          one_of_run = held_is.one_of_run;
          receive = receive;
          message = message;
          earlier = took.before;
          later = took.behind;
          before = from sender old.lists.arrived;
          behind = coming' sender r;
          number = refl;
          first_receive = record { parts = posted; meets = took.first.meets; none_before = took.first.none_before };
          first_message = record { parts = queued; meets = took.first.meets; none_before = none };
        },
        tt,
      );
      stands = all_stand code s w' coming' held held' r new set (record {
        follows = subst F (sym met.here) (follows_mpi code s r (w.rank r) _ new
            (follows_same code s r (w.rank r) old new arrived.machine arrived.ending stands.follows));
        data_is = ap (λ (p : RankPart). p.mpi) met.here ∙ mpi_same _ (data_at new)
            (ap (λ (m : MpiData). m.own) stands.data_is ∙ sym arrived.own) (sym took.posted)
            (ap (with_pair (record { receive = receive; message = message })) (ap (λ (m : MpiData). m.matched) stands.data_is)
            ∙ sym (once old.lists.matched new.lists.matched (record { receive = receive; message = message }) took.matched))
            (ap (λ (m : MpiData). m.joined) stands.data_is ∙ ap (λ x. x.joined) (sym arrived.sweep));
        queues = λ a. elim (eqb_tells a sender) [
          | inl t ↦
              let Q : ℕ → Type 0 = λ k. w'.queue k r ≡ from k new.lists.arrived ++ coming' k r in
              subst Q (sym t.1) (met.queue_here ∙ ap (λ ms. from sender ms ++ coming' sender r) (sym took.arrived))
          | inr t ↦ met.queue_else a r (pair_other_sender a sender r r t.1) ∙ stands.queues a
              ∙ ap (λ ms. from a old.lists.arrived ++ ms)
              (taken a r ∙ ap (λ ms. ms ++ coming' a r) (between_none a r r message (pair_other_sender a sender r r t.1)))
              ∙ ap (λ ms. from a ms ++ coming' a r) (sym took.arrived)
        ];
        settled = settled_now new.lists took.posted took.arrived;
        orderly = orderly;
      }) (λ q rank other is.
          let others = stand q rank is in
          stands_still code s w w' coming coming' q rank (met.others q other)
          (λ a. met.queue_else a q (pair_other_receiver a sender q r other)
          ∙ other_queue w coming coming' message r q rank a other taken (others.queues a)) others);
    }
  where
    stands : RankStands code s w coming r old
    stands = stand r old held_is.here

    took : TakesReceive old.lists message hit new.lists
    took = arrived.book

    receive : Posted
    receive = took.receive

    sender : ℕ
    sender = message.sender.0

    P : Hit → Type 0
    P h = Goes code s w (Match (record { 0 = r }) h.request h.sender ∷ []) coming' held'

    F : RankPart → Type 0
    F p = FollowsRun code s r p new

    posted : (w.rank r).mpi.posted ≡ took.before ++ receive ∷ took.behind
    posted = ap (λ (m : MpiData). m.posted) stands.data_is ∙ took.first.parts

    queued : w.queue sender r ≡ from sender old.lists.arrived ++ message ∷ coming' sender r
    queued = stands.queues sender ∙ ap (λ ms. from sender old.lists.arrived ++ ms)
        (taken sender r ∙ ap (λ ms. ms ++ coming' sender r) (between_same r message))

    settled_parts : All (λ p. NoneOf (IsAcceptedBy p) old.lists.arrived) (took.before ++ receive ∷ took.behind)
    settled_parts = let Q : List Posted → Type 0 = All (λ p. NoneOf (IsAcceptedBy p) old.lists.arrived) in subst Q took.first.parts stands.settled

    none : NoneOf (IsAcceptedBy receive) (from sender old.lists.arrived)
    none = none_from receive sender old.lists.arrived
        (All-middle (λ p. NoneOf (IsAcceptedBy p) old.lists.arrived) took.before receive took.behind settled_parts)

    ascend : AllPairs (λ (a b : Posted). a.request < b.request) (took.before ++ receive ∷ took.behind)
    ascend = let Q : List Posted → Type 0 = AllPairs (λ (a b : Posted). a.request < b.request) in subst Q took.first.parts stands.orderly.posted_ascend

    w' : World
    w' = after s w (Match (record { 0 = r }) receive.request (record { 0 = sender }))

    met : HasMet w r sender receive message took.before took.behind (from sender old.lists.arrived) (coming' sender r) w'
    met = meets_go s w r sender receive message took.before took.behind (from sender old.lists.arrived) (coming' sender r) (record {
      posted = posted;
      queued = queued;
      numbers = other_numbers took.before receive took.behind ascend;
      refused = none_accepted tested receive (from sender old.lists.arrived) none;
      accepted = is_accepted_so tested receive message took.first.meets;
    })

    settled_now : (lists : BookLists) → lists.posted ≡ took.before ++ took.behind → lists.arrived ≡ old.lists.arrived → IsSettled lists
    settled_now lists posted_is arrived_is =
        let Q : List Posted → Type 0 = All (λ p. NoneOf (IsAcceptedBy p) lists.arrived) in
        let R : List Message → Type 0 = λ ms. All (λ p. NoneOf (IsAcceptedBy p) ms) (took.before ++ took.behind) in
        subst Q (sym posted_is) (subst R (sym arrived_is)
        (All-without (λ p. NoneOf (IsAcceptedBy p) old.lists.arrived) took.before receive took.behind settled_parts))

pub arrivals_go : AcceptanceIsTested → InsertionIsOnePlace → ArrivalsKeep
arrivals_go tested once code s w coming coming' held held' r message None old new stand held_is arrived orderly taken set =
    kept code s w coming coming' held held' r message old new stand held_is arrived orderly taken set
arrivals_go tested once code s w coming coming' held held' r message (Some hit) old new stand held_is arrived orderly taken set =
    got tested once code s w coming coming' held held' r message hit old new stand held_is arrived orderly taken set
