-- A tick at a call of MPI.
use Rattle.std.proofs.Common.{ℕ, suc, ◌≡◌, ◌≢◌, ◌+◌, ◌<◌, List, [], ◌∷◌, ◌++◌, refl, sym, ap, ◌∙◌, subst, arith, append_assoc, Option, Some, None}
use Rattle.std.proofs.lemmas.List.{append-nil}
use Rattle.rank_range.specs.declared.run.Ending.TheVariants.{Running}
use Rattle.vm_code.specs.declared.code.Code.{Code}
use Rattle.vm_code.specs.Stops.{Stop, Paused, Waits, Done}
use Rattle.vm_code.specs.Laws.{StaysStopped}
use Rattle.vm_code.specs.Machine.{Went, Stopped, Stops, given, one_step}
use Rattle.c_model.specs.Outcome.{Outcome}
use Rattle.c_model.specs.Statements.{run_of}
use Rattle.mpi_types.specs.declared.call.Answer.{Answer}
use Rattle.mpi_types.specs.declared.call.Call.{Call}
use Rattle.mpi_types.specs.declared.entries.Entry.{Entry}
use Rattle.mpi_types.specs.declared.entries.Entry.TheVariants.{Tick}
use Rattle.mpi_types.specs.declared.lists.BookLists.{BookLists}
use Rattle.mpi_types.specs.declared.argument.Sweep.{Sweep}
use Rattle.mpi_types.specs.declared.message.Hit.{Hit}
use Rattle.mpi_types.specs.declared.message.Message.{Message}
use Rattle.mpi_types.specs.declared.message.Posted.{Posted}
use Rattle.mpi_types.specs.Book.{IsOrderly, IsSettled}
use Rattle.mpi_rules.specs.declared.given.Joining.{Joining}
use Rattle.mpi_rules.specs.declared.given.SendOut.{SendOut}
use Rattle.mpi_rules.specs.Answers.{value_or_half}
use Rattle.mpi_rules.specs.Calls.{reply}
use Rattle.mpi_rules.specs.Data.{MpiData}
use Rattle.mpi_rules.specs.Reply.{Given, Reply, Gives, NotYet, with_post, with_join}
use Rattle.rank_steps.specs.Steps.{Standing, IsAnswered, IsStopped, SweepMoves, data_at, stop_of}
use Rattle.standing.specs.World.{Setting, World, RankPart, outcome_of, next_of, reply_at, reply_for, part_behind, with_answer, with_mpi, sent_by, sent_between, ticked_by, after, after_all}
use Rattle.standing.specs.Steps.{MayTick, IsLegalFrom}
use Rattle.standing.specs.Stands.{FollowsRun, RankStands, RanksStand, IsSetAt, IsSentTo, Goes, later_of, from}
use Rattle.standing.specs.Laws.{IsHeld}
use Rattle.standing.proofs.MachineLemmas.{IsAtCall, pauses_there, one_stop, stops_at_once, stops_behind, call_counts, stop_counts}
use Rattle.standing.proofs.RunLemmas.{all_stand, stands_still, same_data}
use Rattle.standing.proofs.StandLemmas.{follows_mpi}
use Rattle.standing.proofs.WorldLemmas.{changed_here, changed_there}

-- ---- the run of a rank that is at a call

now_run : (s : Setting) (r : ℕ) (part : RankPart) → later_of s r part 0 [] ≡ outcome_of s r part
now_run s r part =
    ap (λ a. run_of s.program s.segment r a (part.ticks + 0)) (append-nil part.answers)
    ∙ ap (λ k. run_of s.program s.segment r part.answers k) (let same : part.ticks + 0 ≡ part.ticks = omega arith in same)

next_run : (s : Setting) (r : ℕ) (part : RankPart) → later_of s r part 1 [] ≡ next_of s r part
next_run s r part = ap (λ a. run_of s.program s.segment r a (part.ticks + 1)) (append-nil part.answers)

-- The rank is paused, and its next tick gets this reply.
pub record IsAsking (s : Setting) (r : ℕ) (part : RankPart) (reply : Reply) : Type 0 where
  pub paused : (outcome_of s r part).stop ≡ Paused
  pub reply_is : reply_for s r part ≡ Some reply

pub asking : StaysStopped → (code : Code) (s : Setting) (r : ℕ) (part : RankPart) (call : Call) (old : Standing) → FollowsRun code s r part old
    → old.ending ≡ Running → IsAtCall code old.machine call → part.mpi ≡ data_at old
    → IsAsking s r part (reply old.machine.done.memory.areas (data_at old) call)
asking stays code s r part call old follows running at mpi_is =
    let m = old.machine in
    let now = one_stop stays code (given 0 [] m) _ Paused _ m.done (follows.goes running 0 [])
    (stops_at_once code (given 0 [] m) (given 0 [] m) Paused (pauses_there code m call at)) in
    let next = one_stop stays code (given 1 [] m) _ (Waits call) _ m.done (follows.goes running 1 [])
    (stops_at_once code (given 1 [] m) (given 1 [] m) (Waits call) (at.does 1 [])) in
    let stop : (next_of s r part).stop ≡ Waits call = ap (λ (o : Outcome). o.stop) (sym (next_run s r part)) ∙ next.0 in
    let done : (next_of s r part).done ≡ m.done = ap (λ (o : Outcome). o.done) (sym (next_run s r part)) ∙ next.1 in
    record {
      paused = ap (λ (o : Outcome). o.stop) (sym (now_run s r part)) ∙ now.0;
      reply_is = ap (λ t. reply_at (next_of s r part).done.memory.areas part.mpi t) stop
          ∙ ap (λ (d : Done). reply_at d.memory.areas part.mpi (Waits call)) done
          ∙ ap (λ x. reply_at m.done.memory.areas x (Waits call)) mpi_is;
    }

nothing_stops : (stop : Stop) → None ≡ Some stop → ⊥
nothing_stops stop e = cc

some_stop : (a b : Stop) → Some a ≡ Some b → a ≡ b
some_stop a b e = cc

-- a call that is answered leads on
pub follows_on : (code : Code) (s : Setting) (r : ℕ) (part : RankPart) (call : Call) (a : Answer) (old new : Standing) → FollowsRun code s r part old
    → old.ending ≡ Running → new.ending ≡ Running → IsAtCall code old.machine call
    → ((left : ℕ) (answers : List Answer) → one_step code (given (suc left) (a ∷ answers) old.machine) ≡ Went (given left answers new.machine))
    → FollowsRun code s r (with_answer a part) new
follows_on code s r part call a old new follows was is at goes = record {
  ticks = omega (arith, call_counts code old.machine new.machine call a at goes, follows.ticks);
  goes = λ running left answers.
      let list : part.answers ++ a ∷ answers ≡ (part.answers ++ a ∷ []) ++ answers = sym (append_assoc part.answers (a ∷ []) answers) in
      let count : part.ticks + suc left ≡ (part.ticks + 1) + left = omega arith in
      let P : List Answer → Type 0 = λ l. Stops code (given left answers new.machine) (run_of s.program s.segment r l (part.ticks + suc left)).stop
      (run_of s.program s.segment r l (part.ticks + suc left)).done in
      let Q : ℕ → Type 0 = λ k. Stops code (given left answers new.machine)
      (run_of s.program s.segment r ((part.answers ++ a ∷ []) ++ answers) k).stop
      (run_of s.program s.segment r ((part.answers ++ a ∷ []) ++ answers) k).done in
      subst Q count (subst P list (stops_behind code (given (suc left) (a ∷ answers) old.machine) (given left answers new.machine) _ _ (goes left answers)
      (follows.goes was (suc left) (a ∷ answers))));
  over = λ stop e. absurd (nothing_stops stop (sym (ap stop_of is) ∙ e));
}

-- one that traps or ends the rank stops it
pub follows_to_end : StaysStopped → (code : Code) (s : Setting) (r : ℕ) (part : RankPart) (call : Call) (a : Answer) (stop : Stop) (old new : Standing)
    → FollowsRun code s r part old → old.ending ≡ Running → stop_of new.ending ≡ Some stop → IsAtCall code old.machine call
    → ((left : ℕ) (answers : List Answer) → one_step code (given (suc left) (a ∷ answers) old.machine) ≡ Stopped stop (given left answers new.machine))
    → FollowsRun code s r (with_answer a part) new
follows_to_end stays code s r part call a stop old new follows was is at stops =
    let both = one_stop stays code (given 1 (a ∷ []) old.machine) _ stop _ new.machine.done (follows.goes was 1 (a ∷ []))
    (stops_at_once code (given 1 (a ∷ []) old.machine) (given 0 [] new.machine) stop (stops 0 [])) in
    record {
      ticks = omega (arith, stop_counts code old.machine new.machine call a stop at stops, follows.ticks);
      goes = λ running. absurd (nothing_stops stop (sym (ap stop_of running) ∙ is));
      over = λ other e. record { stop_is = both.0 ∙ some_stop stop other (sym is ∙ e); done_is = both.1 };
    }

-- ---- the world behind the tick

not_yet_no : (reply : Reply) → (reply ≡ NotYet → ⊥) → Some reply ≡ Some NotYet → ⊥
not_yet_no reply n e = n (let same : reply ≡ NotYet = cc in same)

-- the tick, and what is allowed behind it
pub tick_then : (code : Code) (s : Setting) (w v : World) (r : ℕ) (rest : List Entry) (coming' : ℕ → ℕ → List Message) (held' : ℕ → Option Standing)
    → MayTick s w r → after s w (Tick (record { 0 = r })) ≡ v → Goes code s v rest coming' held'
    → Goes code s w (Tick (record { 0 = r }) ∷ rest) coming' held'
tick_then code s w v r rest coming' held' may is goes =
    let P : World → Type 0 = λ x. IsLegalFrom s x rest in
    let Q : World → Type 0 = λ x. RanksStand code s (after_all s x rest) coming' held' in
    record { legal = (λ unmarked. may, subst P (sym is) goes.legal); stands = subst Q (sym is) goes.stands }

-- what is sent stands behind what is under way
pub grown : (w : World) (coming coming' : ℕ → ℕ → List Message) (send : Option SendOut) (a q : ℕ) (arrived : List Message) → IsSentTo coming send coming'
    → w.queue a q ≡ from a arrived ++ coming a q → w.queue a q ++ sent_between send a q ≡ from a arrived ++ coming' a q
grown w coming coming' send a q arrived sent is =
    ap (λ ms. ms ++ sent_between send a q) is ∙ append_assoc (from a arrived) (coming a q) (sent_between send a q)
    ∙ ap (λ ms. from a arrived ++ ms) (sym (sent a q))

-- All that is given where a rank takes a tick at a call of MPI.
pub record Asked (code : Code) (s : Setting) (w : World) (coming coming' : ℕ → ℕ → List Message) (held held' : ℕ → Option Standing) (r : ℕ) (call : Call)
    (send : Option SendOut) (old new : Standing) : Type 0 where
  pub stand : RanksStand code s w coming held
  pub held_is : IsHeld s held r old
  pub at : IsAtCall code old.machine call
  pub running : old.ending ≡ Running
  pub orderly : IsOrderly new.lists
  pub within : (w.rank r).ticks < s.bound
  pub sent : IsSentTo coming send coming'
  pub set : IsSetAt held r new held'

-- the other ranks behind the tick
pub others_still : (code : Code) (s : Setting) (w : World) (coming coming' : ℕ → ℕ → List Message) (held held' : ℕ → Option Standing) (r : ℕ) (call : Call)
    (send : Option SendOut) (old new : Standing) (reply : Reply) → Asked code s w coming coming' held held' r call send old new
    → sent_by (Some reply) ≡ send → (q : ℕ) (rank : Standing) → q ≢ r → held q ≡ Some rank
    → RankStands code s (ticked_by r (Some reply) w) coming' q rank
others_still code s w coming coming' held held' r call send old new reply asked sends q rank other is =
    let stands = asked.stand q rank is in
    stands_still code s w (ticked_by r (Some reply) w) coming coming' q rank
    (changed_there w.rank r q (part_behind (Some reply) (w.rank r)) other)
    (λ a. ap (λ x. w.queue a q ++ sent_between x a q) sends
    ∙ grown w coming coming' send a q rank.lists.arrived asked.sent (stands.queues a)) stands

-- ---- a call that traps or ends the rank

pub stopped : StaysStopped → (code : Code) (s : Setting) (w : World) (coming coming' : ℕ → ℕ → List Message) (held held' : ℕ → Option Standing) (r : ℕ)
    (call : Call) (send : Option SendOut) (old new : Standing) (reply : Reply) (a : Answer) (stop : Stop)
    → Asked code s w coming coming' held held' r call send old new → sent_by (Some reply) ≡ send
    → part_behind (Some reply) (w.rank r) ≡ with_answer a (w.rank r) → IsStopped code a stop send None None old new
    → Goes code s (ticked_by r (Some reply) w) [] coming' held'
stopped stays code s w coming coming' held held' r call send old new reply a stop asked sends part_is does =
    let stands = asked.stand r old asked.held_is.here in
    let here : (ticked_by r (Some reply) w).rank r ≡ with_answer a (w.rank r) = changed_here w.rank r (part_behind (Some reply) (w.rank r)) ∙ part_is in
    let P : RankPart → Type 0 = λ p. FollowsRun code s r p new in
    let S : BookLists → Type 0 = IsSettled in
    record {
      legal = tt;
      stands = all_stand code s (ticked_by r (Some reply) w) coming' held held' r new asked.set (record {
        follows = subst P (sym here) (follows_to_end stays code s r (w.rank r) call a stop old new stands.follows asked.running does.ending asked.at does.machine);
        data_is = ap (λ (p : RankPart). p.mpi) here ∙ stands.data_is ∙ same_data old new does.data_is;
        queues = λ b. ap (λ x. w.queue b r ++ sent_between x b r) sends ∙ grown w coming coming' send b r old.lists.arrived asked.sent (stands.queues b)
            ∙ ap (λ (l : BookLists). from b l.arrived ++ coming' b r) (sym does.data_is.lists);
        settled = subst S (sym does.data_is.lists) stands.settled;
        orderly = asked.orderly;
      }) (others_still code s w coming coming' held held' r call send old new reply asked sends);
    }

-- ---- a call that gives something

pub sweep_joined : (o : Option Joining) (mpi : MpiData) (old new : Sweep) → SweepMoves o mpi old None new → (o ≡ None) × (new.joined ≡ mpi.joined)
sweep_joined None mpi old new moves = (refl, ap (λ (x : Sweep). x.joined) moves.1)
sweep_joined (Some j) mpi old new moves = absurd moves

-- the data of the world behind the tick, where nothing is joined
data_behind : (g : Given) (o : Option Posted) → g.join ≡ None → g.post ≡ o → with_join g.join (with_post g.post g.after) ≡ with_post o g.after
data_behind g o none post = ap (λ j. with_join j (with_post g.post g.after)) none ∙ ap (λ p. with_post p g.after) post

-- Where the call gives something: the rank's part behind the tick, and what the rank then follows.
pub record Answered (code : Code) (s : Setting) (w : World) (r : ℕ) (g : Given) (o : Option Posted) (new : Standing) : Type 0 where
  pub here : ((ticked_by r (Some (Gives g)) w).rank r).mpi ≡ with_post o g.after
  pub follows : FollowsRun code s r ((ticked_by r (Some (Gives g)) w).rank r) new

pub answered_so : (code : Code) (s : Setting) (w : World) (coming coming' : ℕ → ℕ → List Message) (held held' : ℕ → Option Standing) (r : ℕ) (call : Call)
    (send : Option SendOut) (hit : Option Hit) (old new : Standing) (g : Given) (o : Option Posted)
    → Asked code s w coming coming' held held' r call send old new → IsAnswered code g send hit None old new → g.post ≡ o
    → Answered code s w r g o new
answered_so code s w coming coming' held held' r call send hit old new g o asked does post =
    let stands = asked.stand r old asked.held_is.here in
    let joined = sweep_joined g.join g.after old.sweep new.sweep does.sweep in
    let v = ticked_by r (Some (Gives g)) w in
    let a = value_or_half g.answer g.writes in
    let here : v.rank r ≡ with_mpi (with_join g.join (with_post g.post g.after)) (with_answer a (w.rank r)) =
    changed_here w.rank r (part_behind (Some (Gives g)) (w.rank r)) in
    let P : RankPart → Type 0 = λ p. FollowsRun code s r p new in
    record {
      here = ap (λ (p : RankPart). p.mpi) here ∙ data_behind g o joined.0 post;
      follows = subst P (sym here) (follows_mpi code s r (with_answer a (w.rank r)) _ new
          (follows_on code s r (w.rank r) call a old new stands.follows asked.running does.ending asked.at does.machine));
    }
